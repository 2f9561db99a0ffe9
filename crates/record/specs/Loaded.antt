-- A session taken out of its record for a row, and put back. Assumes nothing.
use Rattle.std.specs.Prelude.{ℕ, ◌<◌, ◌^◌, ◌≡◌, true, List, length, get_or, eqb, Result}
use Rattle.choice.specs.Pick.{pick}
use Rattle.refusals.specs.declared.Refusal.{Refusal}
use Rattle.refusals.specs.Refusals.{not_refused, not_sound, told_as}
use Rattle.session.specs.declared.Session.{Session}
use Rattle.session.specs.Session.{sound}
use Rattle.session.specs.With.{no_session}
use Rattle.record.specs.declared.Loaded.{Loaded}
use Rattle.record.specs.Record.{record_length, decoded, stored_in}

-- a session or why there is none, as C has it
abbrev pub loaded_of : Result Session Refusal → Loaded
loaded_of = told_as (λ s. record { refusal = not_refused; session = s }) (λ n. record { refusal = n; session = no_session })

-- 10 for "the .. record handed in is not sound": refused, no session
unfoldable pub load : List ℕ → Loaded
load l = pick (sound (decoded l)) (record { refusal = not_refused; session = decoded l }) (record { refusal = not_sound; session = no_session })

-- 10 for "the session .. handed in is not sound, or the room for a new one is not of its size"
unfoldable pub store_refusal : Session → List ℕ → ℕ
store_refusal s l = pick (sound s) (pick (eqb (length l) record_length) not_refused not_sound) not_sound

-- the record after it: refused, as it was
unfoldable pub store_octets : Session → List ℕ → List ℕ
store_octets s l = pick (sound s) (stored_in s l) l

-- a sound session stored in a record is loaded as it was
abbrev pub LoadedBack : Type 0
LoadedBack =
    (s : Session) (l : List ℕ) → sound s ≡ true → s.hello < 2 ^ 32 → s.next < 2 ^ 32 → length l ≡ record_length
    → load (store_octets s l) ≡ record { refusal = not_refused; session = s }

-- and one that was loaded, stored again, leaves the record as it was
abbrev pub StaysAsLoaded : Type 0
StaysAsLoaded = (l : List ℕ) → ((i : ℕ) → get_or l i 0 < 256) → sound (decoded l) ≡ true → store_octets (load l).session l ≡ l
