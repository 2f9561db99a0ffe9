-- The tables of Kinds.antt turned round: "for each kind, the set of applications that open it, with Session Protection added from the session", and the
-- Apps that control it. These are what the code reads; which kinds a number stands for is right as Kinds.antt has it, and the two layouts
-- agree. Assumes nothing.
use Rattle.std.specs.Prelude.{ℕ, ◌-◌, ◌≡◌, Bool, ◌&&◌, List, [], ◌∷◌, get_or}
use Rattle.choice.specs.Pick.{pick}
use Rattle.sets.specs.Set.{has, with, meets, numbered, chosen}
use Rattle.kinds.specs.Kinds.{kind_count, app_count, is_in, session_protection, opens, controlled}

-- the applications that open each kind in every session, from kind 0 on
abbrev pub openers_table : List (List ℕ)
openers_table =
    (1 ∷ 4 ∷ 12 ∷ [])  -- 0 IPv4 prefix
    ∷ (2 ∷ 5 ∷ 13 ∷ [])  -- 1 IPv6 prefix
    ∷ (3 ∷ 11 ∷ [])  -- 2 P2MP
    ∷ (3 ∷ 11 ∷ [])  -- 3 MP2MP-up
    ∷ (3 ∷ 11 ∷ [])  -- 4 MP2MP-down
    ∷ (3 ∷ 11 ∷ [])  -- 5 HSMP-downstream
    ∷ (3 ∷ 11 ∷ [])  -- 6 HSMP-upstream
    ∷ (6 ∷ [])  -- 7 PWid
    ∷ (7 ∷ [])  -- 8 Generalized PWid
    ∷ (10 ∷ [])  -- 9 P2MP PW Upstream
    ∷ []

-- the Apps that control each kind
abbrev pub controllers_table : List (List ℕ)
controllers_table = (1 ∷ []) ∷ (2 ∷ []) ∷ [] ∷ [] ∷ [] ∷ [] ∷ [] ∷ (3 ∷ []) ∷ (4 ∷ []) ∷ [] ∷ []

-- these numbers as a set, each at the place one below it
unfoldable pub placed : List ℕ → ℕ
placed [] = 0
placed (n ∷ ns) = with (placed ns) (n - 1)

-- the applications that open the kind k in a session with these protected kinds
unfoldable pub openers_always : ℕ → ℕ
openers_always k = placed (get_or openers_table k [])

unfoldable pub openers : ℕ → ℕ → ℕ
openers protects k = pick (has protects k) (with (openers_always k) (session_protection - 1)) (openers_always k)

-- the Apps that control the kind k
unfoldable pub controllers : ℕ → ℕ
controllers k = placed (get_or controllers_table k [])

-- by a table of such sets: whether these members stand for the nth kind, and the kinds that they stand for
abbrev pub stand_for : List ℕ → ℕ → ℕ → Bool
stand_for table members n = meets members (get_or table (n - 1) 0)

unfoldable pub kinds_by : List ℕ → ℕ → ℕ
kinds_by table members = chosen kind_count (stand_for table members) kind_count

-- "The two layouts are proved to agree for every application and kind and every protected set"
abbrev pub LayoutsAgree : Type 0
LayoutsAgree = (n k protects : ℕ) → has (opens protects n) k ≡ is_in (openers protects k) n

-- and for every App and kind
abbrev pub AppLayoutsAgree : Type 0
AppLayoutsAgree = (n k : ℕ) → has (controlled n) k ≡ numbered app_count n && has (controllers k) (n - 1)
