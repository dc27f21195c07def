-- The answers of the three questions, each case with document 01's number and values.
use Rattle.std.specs.Prelude.{None, Some, Result, Ok, Err}
use Rattle.rule.specs.Refusals.{number}
use Rattle.questions.specs.declared.ConnectAnswer.{ConnectAnswer}
use Rattle.questions.specs.declared.ConnectAnswer.TheVariants as connect
use Rattle.questions.specs.declared.SubscribeAnswer.{SubscribeAnswer}
use Rattle.questions.specs.declared.SubscribeAnswer.TheVariants as subscribe
use Rattle.questions.specs.declared.PublishAnswer.{PublishAnswer}
use Rattle.questions.specs.declared.PublishAnswer.TheVariants as publish
use Rattle.questions.specs.Question.{kept, connects, subscribes, publishes, not_authorized, unspecified_error, Reply, refuses, decides}
use Rattle.rule.specs.declared.Refusal.{Refusal}

unfoldable pub connect_says : Result ConnectAnswer Refusal → Reply
connect_says (Ok (connect.Kept code)) = decides (kept code)
connect_says (Ok (connect.Allow rule superuser)) = decides (connects rule superuser)
connect_says (Ok (connect.Refuse rule)) = decides (not_authorized rule None)
connect_says (Err cause) = refuses (number cause) 0

unfoldable pub subscribe_says : Result SubscribeAnswer Refusal → Reply
subscribe_says (Ok (subscribe.Kept code)) = decides (kept code)
subscribe_says (Ok (subscribe.Allow rule qos)) = decides (subscribes rule qos)
subscribe_says (Ok (subscribe.Refuse rule)) = decides (unspecified_error rule)
subscribe_says (Err cause) = refuses (number cause) 0

unfoldable pub publish_says : Result PublishAnswer Refusal → Reply
publish_says (Ok (publish.Kept code)) = decides (kept code)
publish_says (Ok (publish.Allow rule)) = decides (publishes rule)
publish_says (Ok (publish.Refuse rule disconnect)) = decides (not_authorized rule (Some disconnect))
publish_says (Err cause) = refuses (number cause) 0
