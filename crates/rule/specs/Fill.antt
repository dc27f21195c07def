-- Filling templates: document 01, Events, "replace `%c` by the client id, then `%u` by the user name, or by nothing if none".
use Rattle.std.specs.Prelude.{ℕ, List, [], Option, unwrap_or}
use Rattle.text.specs.Ascii.{ascii}
use Rattle.text.specs.Text.{replace}

-- an optional text, or nothing
unfoldable pub or_nothing : Option (List ℕ) → List ℕ
or_nothing o = unwrap_or o []

unfoldable pub fill : List ℕ → List ℕ → Option (List ℕ) → List ℕ
fill template id name = replace (ascii "%u") (or_nothing name) (replace (ascii "%c") id template)
