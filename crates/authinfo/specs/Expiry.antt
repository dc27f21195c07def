-- Expiry: document 01, Per-client rules and Refusals by operation; `AuthInfo::is_expired` of rmqtt/src/acl.rs.
use Rattle.std.specs.Prelude.{ℕ, Bool, false, ◌&&◌, ◌||◌, cond, eqb, ltb, Option, None, Result, Ok, Err, Some}
use Rattle.rule.specs.Refusals.{number}
use Rattle.rule.specs.declared.Refusal.{Refusal}
use Rattle.authinfo.specs.declared.Time.{Time}

-- whether credentials are expired, or a refusal's number
pub data Reply : Type 0 where
  refuses : (number : ℕ) → Reply
  decides : (expired : Bool) → Reply

-- the answer's cases, each with document 01's number and value
unfoldable pub expiry_says : Result Bool Refusal → Reply
expiry_says (Ok expired) = decides expired
expiry_says (Err cause) = refuses (number cause)

-- "nanoseconds of either time over 999,999,999"
abbrev pub nanoseconds_limit : ℕ
nanoseconds_limit = 999999999

unfoldable pub over_nanoseconds : ℕ → Bool
over_nanoseconds n = ltb nanoseconds_limit n

-- a time lies before another
unfoldable pub below : Time → Time → Bool
below t now = ltb t.seconds now.seconds || (eqb t.seconds now.seconds && ltb t.nanoseconds now.nanoseconds)

-- the expiry's nanoseconds are over the limit; "none" has no nanoseconds
unfoldable pub expiry_over : Option Time → Bool
expiry_over None = false
expiry_over (Some t) = over_nanoseconds t.nanoseconds

-- "Expired: expiry below now; equal isn't; none never"
unfoldable pub is_expired : Option Time → Time → Bool
is_expired None now = false
is_expired (Some t) now = below t now

-- "2 nanoseconds of either time over 999,999,999"
unfoldable pub expiry : Option Time → Time → Reply
expiry e now = cond (expiry_over e || over_nanoseconds now.nanoseconds) (refuses 2) (decides (is_expired e now))
