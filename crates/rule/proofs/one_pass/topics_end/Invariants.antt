-- The loop's invariant: topics from here on, no more than are left of the limit, are the array's behind those that were read. Assumes
-- nothing.
use Prim.Native.Nat.{ℕ, ◌-◌}
use Rattle.rule.specs.Limits.{topics_limit}
use Rattle.rule.specs.OnePass.{TopicsTo}
use Rattle.rule.proofs.OnePassLaws.{TopicsFrom}
use Rattle.rule.proofs.one_pass.topics_end.Given as goal

abbrev pub invariant-loop : goal.invariant-loop
invariant-loop l = (end : ℕ) → TopicsFrom l.line l.i (topics_limit - l.counter) end → TopicsTo l.line l.at end
