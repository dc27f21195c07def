-- What is known before anything is read.
use Rattle.std.specs.Prelude.{ℕ, true, false, Option, Some}
use Rattle.lines.specs.Input.{Begun}
use Rattle.streams.specs.declared.Run.{Run}

-- no line has begun
abbrev pub no_line : Begun
no_line = Some 0

-- before the first byte: no rule, no line and no answer yet; a rule line may begin. The first line's length is `None` where it is to come
abbrev pub started : Option ℕ → Run
started header =
    record {
      header = header;
      opened = false;
      rules = record { length = 0; fresh = true };
      begun = no_line;
      number = 0;
      waiting = 0;
      more = true;
    }
