-- What the functions that read a line answer, by the places of its elements.
use Rattle.std.specs.Prelude.{ℕ, Bool, true, false, ◌&&◌, not, cond, List, ltb, leb, length, Option, None, Some, Result, Ok, Err}
use Rattle.text.specs.Ascii.{ascii}
use Rattle.json_text.specs.Strings.{Decoded, string_at}
use Rattle.json_text.specs.Json.{Json, null, bool, number, text, array, object, Elements, no_element, is_at, skip_blanks, word_at, line_value}
use Rattle.json_text.specs.Access.{string_is, literal_of, copied, is_document}
use Rattle.json_text.specs.declared.Literal.{Literal}
use Rattle.json_text.specs.declared.Literal.TheVariants.{Null, True, False}
use Rattle.rule.specs.Limits.{line_limit}
use Rattle.rule.specs.Members.{number_from, truth_from}
use Rattle.reader.specs.declared.Fields.{Fields}
use Rattle.lines.specs.declared.Form.{Form}
use Rattle.lines.specs.declared.Form.TheVariants.{Connect, Subscribe, Publish, Connected, Disconnected, Ended}
use Rattle.json_text.specs.declared.DecodeError.TheVariants.{NoText, TooLong}
use Rattle.lines.specs.declared.Asker.{Asker}
use Rattle.lines.specs.declared.Header.{Header}
use Rattle.json_text.specs.declared.DecodeError.{DecodeError}

-- the elements of a line that is an array
unfoldable pub elements_by : Option Json → Elements
elements_by None = no_element
elements_by (Some null) = no_element
elements_by (Some (bool b)) = no_element
elements_by (Some (number n)) = no_element
elements_by (Some (text t)) = no_element
elements_by (Some (array es)) = es
elements_by (Some (object ms)) = no_element

unfoldable pub elements : List ℕ → Elements
elements line = elements_by (line_value line)

-- the string at a place, if there is one
unfoldable pub string_from : List ℕ → Option ℕ → Option Decoded
string_from line None = None
string_from line (Some p) = string_at line p

-- is it this word?
unfoldable pub word_from : List ℕ → Option ℕ → List ℕ → Bool
word_from line None word = false
word_from line (Some p) word = string_is line p word

unfoldable pub form_here : List ℕ → Option ℕ → Option Form
form_here line at =
    cond (word_from line at (ascii "connect")) (Some Connect)
    (cond (word_from line at (ascii "subscribe")) (Some Subscribe)
    (cond (word_from line at (ascii "publish")) (Some Publish)
    (cond (word_from line at (ascii "connected")) (Some Connected)
    (cond (word_from line at (ascii "disconnected")) (Some Disconnected) (cond (word_from line at (ascii "ended")) (Some Ended) None)))))

-- does `null` stand at a place?
unfoldable pub is_null_word : Option Literal → Bool
is_null_word (Some Null) = true
is_null_word (Some True) = false
is_null_word (Some False) = false
is_null_word None = false

unfoldable pub null_from : List ℕ → Option ℕ → Bool
null_from line None = false
null_from line (Some p) = is_null_word (literal_of (word_at line p))

-- a text or null, decoded into a buffer of `room` bytes
unfoldable pub given_by : Result ℕ DecodeError → Bool → Option (Option ℕ)
given_by (Ok n) is_null = Some (Some n)
given_by (Err TooLong) is_null = None
given_by (Err NoText) is_null = cond is_null (Some None) None

unfoldable pub given_from : ℕ → List ℕ → Option ℕ → Option (Option ℕ)
given_from room line at = given_by (copied room (string_from line at)) (null_from line at)

-- an earlier answer's code: a number, or null
unfoldable pub earlier_from : List ℕ → Option ℕ → Option ℕ
earlier_from line at = cond (null_from line at) (Some 0) (number_from line at)

-- a protocol: a number up to 255, or null
unfoldable pub protocol_by : Option ℕ → Option (Option ℕ)
protocol_by None = None
protocol_by (Some n) = cond (leb n 255) (Some (Some n)) None

unfoldable pub protocol_from : List ℕ → Option ℕ → Option (Option ℕ)
protocol_from line at = cond (null_from line at) (Some None) (protocol_by (number_from line at))

-- who asks, if all that is read of him is right
unfoldable pub with_protocol : ℕ → ℕ → Option ℕ → Option ℕ → Option ℕ → Option (Option ℕ) → Option Asker
with_protocol earlier id name password address None = None
with_protocol earlier id name password address (Some p) =
    Some (record { earlier = earlier; id = id; name = name; password = password; address = address; protocol = p })

unfoldable pub with_texts : ℕ → ℕ → Option (Option ℕ) → Option (Option ℕ) → Option (Option ℕ) → Option (Option ℕ) → Option Asker
with_texts earlier id None password address p = None
with_texts earlier id (Some name) None address p = None
with_texts earlier id (Some name) (Some password) None p = None
with_texts earlier id (Some name) (Some password) (Some address) p = with_protocol earlier id name password address p

unfoldable pub with_id : Option ℕ → Result ℕ DecodeError → Option (Option ℕ) → Option (Option ℕ) → Option (Option ℕ) → Option (Option ℕ) → Option Asker
with_id None id name password address p = None
with_id (Some earlier) (Ok n) name password address p = with_texts earlier n name password address p
with_id (Some earlier) (Err TooLong) name password address p = None
with_id (Some earlier) (Err NoText) name password address p = None

-- with buffers of so many bytes for the id, the name, the password and the address
unfoldable pub asker_here : ℕ → ℕ → ℕ → ℕ → List ℕ → Fields → Option Asker
asker_here ids names passwords addresses line f =
    with_id
    (earlier_from line f.second)
    (copied ids (string_from line f.third))
    (given_from names line f.fourth)
    (given_from passwords line f.fifth)
    (given_from addresses line f.sixth)
    (protocol_from line f.seventh)

-- a line of at most 2,048 bytes that is a document and begins with a bracket, so that it is an array
unfoldable pub is_array_line : List ℕ → Bool
is_array_line line = not (ltb line_limit (length line)) && (is_document (line_value line) && is_at line (skip_blanks line 0) 0x5b)

-- the client of a first line, if all that is read of it is right and nothing stands behind it
unfoldable pub nothing_at : Option ℕ → Option Header → Option Header
nothing_at None h = h
nothing_at (Some p) h = None

unfoldable pub with_name : Bool → ℕ → Option (Option ℕ) → Option Header
with_name superuser id None = None
with_name superuser id (Some name) = Some (record { superuser = superuser; id = id; name = name })

unfoldable pub with_truth : Option Bool → Result ℕ DecodeError → Option (Option ℕ) → Option Header
with_truth None id name = None
with_truth (Some superuser) (Ok n) name = with_name superuser n name
with_truth (Some superuser) (Err TooLong) name = None
with_truth (Some superuser) (Err NoText) name = None

-- with buffers of so many bytes for the id and the name
unfoldable pub header_here : ℕ → ℕ → List ℕ → Fields → Option Header
header_here ids names line f =
    nothing_at
    f.fourth
    (with_truth (truth_from line f.first) (copied ids (string_from line f.second)) (given_from names line f.third))
