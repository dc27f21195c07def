-- An optional value that is looked into: what comes of it, if there is one. The library's `option_and_then` is the same with its arguments
-- turned round; this one puts the value before what is done with it, as the definitions above read.
use Rattle.std.specs.Prelude.{Option, Some, None}

unfoldable pub bind : {A B : Type 0} → Option A → (A → Option B) → Option B
bind None f = None
bind (Some x) f = f x
