-- Applications and kinds, as document 01 has them, and the capabilities that kinds need. "A targeted application and a SAC application are numbered
-- separately": in a set each stands at the place one below its number, and so does a capability; a kind stands at its own. Assumes nothing.
use Rattle.std.specs.Prelude.{ℕ, zero, suc, ◌+◌, ◌-◌, ◌^◌, ◌≤◌, ◌≡◌, Bool, true, false, List, [], ◌∷◌, get_or, eqb}
use Rattle.choice.specs.Pick.{pick}
use Rattle.sets.specs.Set.{has, union, minus, with, numbered, holds}

-- TA-Ids 1 to 13, kinds 0 to 9, SAC Apps 1 to 4
abbrev pub application_count : ℕ
application_count = 13

abbrev pub kind_count : ℕ
kind_count = 10

abbrev pub app_count : ℕ
app_count = 4

-- the sets of all of them
abbrev pub all_applications : ℕ
all_applications = 2 ^ application_count - 1

abbrev pub all_kinds : ℕ
all_kinds = 2 ^ kind_count - 1

-- the capabilities that kinds need, numbered by their places in a set: "P2MP bit 0, MP2MP bit 1, HSMP bit 2"
abbrev pub p2mp : ℕ
p2mp = 1

abbrev pub mp2mp : ℕ
mp2mp = 2

abbrev pub hsmp : ℕ
hsmp = 3

abbrev pub capability_count : ℕ
capability_count = 3

abbrev pub all_capabilities : ℕ
all_capabilities = 2 ^ capability_count - 1

-- "any other TA-Id, 0 included, is unknown"
abbrev pub known_application : ℕ → Bool
known_application n = numbered application_count n

-- the application n is in the set
unfoldable pub is_in : ℕ → ℕ → Bool
is_in applications n = holds application_count applications n

-- an App that controls a kind: 1 to 4
abbrev pub known_app : ℕ → Bool
known_app n = numbered app_count n

-- TA-Id 8, whose kinds are "the session's protected kinds"
abbrev pub session_protection : ℕ
session_protection = 8

-- the kinds that each application opens, from TA-Id 1 on
abbrev pub opens_table : List (List ℕ)
opens_table =
    (0 ∷ [])  -- 1 LDPv4 Tunneling
    ∷ (1 ∷ [])  -- 2 LDPv6 Tunneling
    ∷ (2 ∷ 3 ∷ 4 ∷ 5 ∷ 6 ∷ [])  -- 3 mLDP Tunneling
    ∷ (0 ∷ [])  -- 4 LDPv4 Remote LFA
    ∷ (1 ∷ [])  -- 5 LDPv6 Remote LFA
    ∷ (7 ∷ [])  -- 6 FEC 128 PW
    ∷ (8 ∷ [])  -- 7 FEC 129 PW
    ∷ []  -- 8 Session Protection
    ∷ []  -- 9 ICCP
    ∷ (9 ∷ [])  -- 10 P2MP PW
    ∷ (2 ∷ 3 ∷ 4 ∷ 5 ∷ 6 ∷ [])  -- 11 mLDP Node Protection
    ∷ (0 ∷ [])  -- 12 IPv4 intra-area FECs
    ∷ (1 ∷ [])  -- 13 IPv6 intra-area FECs
    ∷ []

-- "SAC App 1, 2, 3, 4 controls kind 0, 1, 7, 8"
abbrev pub controls_table : List (List ℕ)
controls_table = (0 ∷ []) ∷ (1 ∷ []) ∷ (7 ∷ []) ∷ (8 ∷ []) ∷ []

-- "kind 2 needs P2MP, kinds 3 and 4 need MP2MP, kinds 5 and 6 need HSMP": the kinds that need each, from P2MP on
abbrev pub needed_table : List (List ℕ)
needed_table = (2 ∷ []) ∷ (3 ∷ 4 ∷ []) ∷ (5 ∷ 6 ∷ []) ∷ []

-- these kinds as a set
unfoldable pub set_of : List ℕ → ℕ
set_of [] = 0
set_of (k ∷ ks) = with (set_of ks) k

-- the kinds that the application n opens in a session with these protected kinds; an unknown one opens none
unfoldable pub opens : ℕ → ℕ → ℕ
opens protects n =
    pick (known_application n) (pick (eqb n session_protection) protects (set_of (get_or opens_table (n - 1) []))) 0

-- the kinds that the App n controls; "App 0 and 5 to 7 are skipped"
unfoldable pub controlled : ℕ → ℕ
controlled n = pick (known_app n) (set_of (get_or controls_table (n - 1) [])) 0

-- the kinds that need the capability n
unfoldable pub needed : ℕ → ℕ
needed n = pick (numbered capability_count n) (set_of (get_or needed_table (n - 1) [])) 0

-- the kinds that the number at place i of a set stands for, where it is in the set; and those of the numbers 1 to w together
abbrev pub member : (ℕ → ℕ) → ℕ → ℕ → ℕ
member kindsOf s i = pick (has s i) (kindsOf (i + 1)) 0

unfoldable pub gather : (ℕ → ℕ) → ℕ → ℕ → ℕ
gather kindsOf zero s = 0
gather kindsOf (suc w) s = union (gather kindsOf w s) (member kindsOf s w)

-- the kinds that a set of applications opens
unfoldable pub opened : ℕ → ℕ → ℕ
opened protects applications = gather (opens protects) application_count applications

-- the kinds that a set of Apps disables
unfoldable pub disables : ℕ → ℕ
disables apps = gather controlled app_count apps

-- the kinds that a set of capabilities bars: they need one that is not in it
unfoldable pub barred : ℕ → ℕ
barred held = gather needed capability_count (minus all_capabilities held)

-- a number of 1 to w in the set, that stands for the kind k
pub record Some (kindsOf : ℕ → ℕ) (w s k : ℕ) : Type 0 where
  pub number : ℕ
  pub least : 1 ≤ number
  pub most : number ≤ w
  pub member : has s (number - 1) ≡ true
  pub maps : has (kindsOf number) k ≡ true

-- a capability that the kind k needs and that is not held
pub record Lacking (held k : ℕ) : Type 0 where
  pub capability : ℕ
  pub least : 1 ≤ capability
  pub most : capability ≤ capability_count
  pub needs : has (needed capability) k ≡ true
  pub not_held : has held (capability - 1) ≡ false
