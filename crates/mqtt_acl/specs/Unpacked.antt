-- What the number says that a call answered: the numbers of Answers.antt and Clients.antt, taken apart. Every number has its parts, so that a host has no
-- arithmetic of its own to do.
use Rattle.std.specs.Prelude.{ℕ, ◌/◌, ◌%◌, Bool, true, false, cond, eqb, ltb, leb, Option, None, Some}
use Rattle.questions.specs.Question as store
use Rattle.authinfo.specs.Decision as client
use Rattle.authinfo.specs.Expiry as expiry

-- what is answered, its deciding rule, the code that is kept, the number of document 01 and its line, the QoS and the flags, and whether it allows; each 0, or
-- false, where the answer has none
pub record Parts : Type 0 where
  pub what : ℕ
  pub rule : ℕ
  pub code : ℕ
  pub refusal : ℕ
  pub line : ℕ
  pub qos : ℕ
  pub superuser : Bool
  pub disconnect : Bool
  pub allows : Bool

-- both included
abbrev pub between : ℕ → ℕ → ℕ → Bool
between least most n = cond (ltb n least) false (leb n most)

-- by what is answered, below 16, and what it carries; from 2 to 7 it allows
unfoldable pub parts_by : ℕ → ℕ → Parts
parts_by what v =
    record {
      what = what;
      rule = cond (between 2 11 what) v 0;
      code = cond (eqb what 1) v 0;
      refusal = cond (eqb what 0) (v % 256) 0;
      line = cond (eqb what 0) (v / 256) 0;
      qos = cond (eqb what 5) 1 (cond (eqb what 6) 2 0);
      superuser = eqb what 3;
      disconnect = eqb what 10;
      allows = between 2 7 what;
    }

unfoldable pub parts : ℕ → Parts
parts n = parts_by (n % 16) (n / 16)

-- the answer of a question on a store that has these parts: 0 refused by number; 1 the earlier code is kept; a connect allowed, 2 without and 3 with the
-- superuser flag; 4 to 6 a subscribe allowed with QoS 0 to 2; 7 a publish allowed; 8 a connect refused; a publish refused, 9 without and 10 with the disconnect
-- flag; 11 a subscribe refused
unfoldable pub on_store : Parts → Option store.Reply
on_store p =
    cond (eqb p.what 0) (Some (store.refuses p.refusal p.line))
    (cond (eqb p.what 1) (Some (store.decides (store.kept p.code)))
    (cond (eqb p.what 2) (Some (store.decides (store.connects p.rule p.superuser)))
    (cond (eqb p.what 3) (Some (store.decides (store.connects p.rule p.superuser)))
    (cond (eqb p.what 4) (Some (store.decides (store.subscribes p.rule p.qos)))
    (cond (eqb p.what 5) (Some (store.decides (store.subscribes p.rule p.qos)))
    (cond (eqb p.what 6) (Some (store.decides (store.subscribes p.rule p.qos)))
    (cond (eqb p.what 7) (Some (store.decides (store.publishes p.rule)))
    (cond (eqb p.what 8) (Some (store.decides (store.not_authorized p.rule None)))
    (cond (eqb p.what 9) (Some (store.decides (store.not_authorized p.rule (Some p.disconnect))))
    (cond (eqb p.what 10) (Some (store.decides (store.not_authorized p.rule (Some p.disconnect))))
    (cond (eqb p.what 11) (Some (store.decides (store.unspecified_error p.rule))) None)))))))))))

-- the answer of a question by a client's own rules: 0, 4 to 7, 9 and 10 as above; 8 a subscribe refused; 12 no decision
unfoldable pub by_client : Parts → Option client.Reply
by_client p =
    cond (eqb p.what 0) (Some (client.refuses p.refusal p.line))
    (cond (eqb p.what 4) (Some (client.decides (client.subscribes p.rule p.qos)))
    (cond (eqb p.what 5) (Some (client.decides (client.subscribes p.rule p.qos)))
    (cond (eqb p.what 6) (Some (client.decides (client.subscribes p.rule p.qos)))
    (cond (eqb p.what 7) (Some (client.decides (client.publishes p.rule)))
    (cond (eqb p.what 8) (Some (client.decides (client.not_authorized p.rule None)))
    (cond (eqb p.what 9) (Some (client.decides (client.not_authorized p.rule (Some p.disconnect))))
    (cond (eqb p.what 10) (Some (client.decides (client.not_authorized p.rule (Some p.disconnect))))
    (cond (eqb p.what 12) (Some (client.decides client.no_decision)) None))))))))

-- and of an expiry: 0 as above; 13 still valid, 14 expired
unfoldable pub on_expiry : Parts → Option expiry.Reply
on_expiry p =
    cond (eqb p.what 0) (Some (expiry.refuses p.refusal))
    (cond (eqb p.what 13) (Some (expiry.decides false)) (cond (eqb p.what 14) (Some (expiry.decides true)) None))

-- ---- which answers allow: a kept code is a refusal, and no decision allows nothing

unfoldable pub store_allows : store.Reply → Bool
store_allows (store.refuses number place) = false
store_allows (store.decides d) = decided d
  where
    decided : store.Decision → Bool
    decided (store.kept code) = false
    decided (store.connects rule superuser) = true
    decided (store.subscribes rule qos) = true
    decided (store.publishes rule) = true
    decided (store.not_authorized rule disconnect) = false
    decided (store.unspecified_error rule) = false

unfoldable pub client_allows : client.Reply → Bool
client_allows (client.refuses number line) = false
client_allows (client.decides d) = decided d
  where
    decided : client.Decision → Bool
    decided (client.subscribes rule qos) = true
    decided (client.publishes rule) = true
    decided (client.not_authorized rule disconnect) = false
    decided client.no_decision = false

-- ---- opening: 0 is done; any other number has the number of document 01 and its line

unfoldable pub read_open : ℕ → Option (ℕ × ℕ)
read_open n = cond (eqb n 0) None (Some (n % 256, n / 256))

unfoldable pub open_refusal : Option (ℕ × ℕ) → ℕ
open_refusal None = 0
open_refusal (Some fault) = fault.0

unfoldable pub open_line : Option (ℕ × ℕ) → ℕ
open_line None = 0
open_line (Some fault) = fault.1
