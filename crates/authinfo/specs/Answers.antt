-- The answers of the per-client calls, each case with document 01's number and values.
use Rattle.std.specs.Prelude.{None, Some, Result, Ok, Err}
use Rattle.rule.specs.Refusals.{number}
use Rattle.authinfo.specs.declared.SubscribeAnswer.{SubscribeAnswer}
use Rattle.authinfo.specs.declared.SubscribeAnswer.TheVariants as subscribe
use Rattle.authinfo.specs.declared.PublishAnswer.{PublishAnswer}
use Rattle.authinfo.specs.declared.PublishAnswer.TheVariants as publish
use Rattle.authinfo.specs.Decision.{subscribes, publishes, not_authorized, no_decision, Reply, refuses, decides}
use Rattle.rule.specs.declared.Fault.{Fault}

unfoldable pub subscribe_says : Result SubscribeAnswer Fault → Reply
subscribe_says (Ok (subscribe.Allow rule qos)) = decides (subscribes rule qos)
subscribe_says (Ok (subscribe.Refuse rule)) = decides (not_authorized rule None)
subscribe_says (Ok subscribe.NoDecision) = decides no_decision
subscribe_says (Err fault) = refuses (number fault.cause) fault.line

unfoldable pub publish_says : Result PublishAnswer Fault → Reply
publish_says (Ok (publish.Allow rule)) = decides (publishes rule)
publish_says (Ok (publish.Refuse rule disconnect)) = decides (not_authorized rule (Some disconnect))
publish_says (Ok publish.NoDecision) = decides no_decision
publish_says (Err fault) = refuses (number fault.cause) fault.line
