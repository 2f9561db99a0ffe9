-- The contracts of the methods of the traits `Digits` and `Numbered`, at every type that has them: which outcomes each allows, read off the contract as `Allows` reads it.
-- And the types of the product that have them, with what the methods of `Numbered` promise of each. Assumes nothing.
use Rattle.std.specs.Prelude.{◌≡◌, refl}
use mir.Syntax.{Dict}
use denote.Triple.Clauses.{Ended}
use denote.RattleType.{RattleType}
use denote.Builtin as builtin
use Rattle.std.specs.declared.clone.Clone as clone
use Rattle.std.below.core.specs.contracts.clone.Clone+copy.TheImpl as copied
use Rattle.std.specs.contracts.prelude.U16Clone.TheImpl as u16_clone
use Rattle.std.specs.contracts.prelude.U8Clone.TheImpl as u8_clone
use Rattle.sets.specs.declared.digits.Digits as declared_digits
use Rattle.sets.specs.declared.numbered_things.Numbered as declared_numbered
use Rattle.sets.specs.contracts.digits.Digits as digits
use Rattle.sets.specs.contracts.digits.U8Digits.TheImpl as u8_digits
use Rattle.sets.specs.contracts.digits.U16Digits.TheImpl as u16_digits
use Rattle.sets.specs.contracts.numbered_things.Numbered as numbered
use Rattle.kinds.specs.contracts.TaId as ta_id
use Rattle.kinds.specs.contracts.SacApp as sac_app
use Rattle.kinds.specs.contracts.Capability as capability
use Rattle.kinds.specs.contracts.TaIdNumbered.TheImpl as ta_id_numbered
use Rattle.kinds.specs.contracts.SacAppNumbered.TheImpl as sac_app_numbered
use Rattle.kinds.specs.contracts.CapabilityNumbered.TheImpl as capability_numbered
use Rattle.choice.specs.Determined.{Determined}
use Rattle.sets.specs.Set.{holds, switched}
use Rattle.kinds.specs.Kinds.{application_count, app_count, capability_count, known_application, known_app, is_in}
use Rattle.promises.specs.Allowed.{Outcome, Allows, AllowsBoth}

-- an unsigned number that a set is kept in: its type, and its impls of `Digits` and `Clone`
pub record Set : Type 2 where
  pub type : RattleType
  pub digits : declared_digits.Ghosts type.Denot
  pub digits_dict : Dict
  pub clone : clone.Ghosts type.Denot
  pub clone_dict : Dict

module _ (s : Set) where
  abbrev wide_ended : Ended
  wide_ended = digits.wide.ended s.type s.digits s.digits_dict s.clone s.clone_dict

  abbrev pub Wide : Outcome wide_ended
  Wide = AllowsBoth wide_ended (λ w. digits.wide.clauses s.type s.digits s.digits_dict s.clone s.clone_dict) (λ w. refl)

  abbrev narrow_ended : Ended
  narrow_ended = digits.narrow.ended s.type s.digits s.digits_dict s.clone s.clone_dict

  abbrev pub Narrow : Outcome narrow_ended
  Narrow = Allows narrow_ended (λ w. digits.narrow.clauses s.type s.digits s.digits_dict s.clone s.clone_dict) (λ w. refl)

  -- the law that two of them with the same digits are equal
  abbrev pub Told : Type 0
  Told = digits.TheBound.told-law s.type s.digits s.digits_dict s.clone s.clone_dict

-- a type of numbered things: its sets, and its impls of `Numbered` and `Clone`
pub record Things : Type 2 where
  pub set : Set
  pub type : RattleType
  pub numbered : declared_numbered.Ghosts type.Denot set.type.Denot
  pub numbered_dict : Dict
  pub clone : clone.Ghosts type.Denot
  pub clone_dict : Dict

module _ (t : Things) where
  abbrev number_ended : Ended
  number_ended = numbered.number.ended t.type t.set.type t.numbered t.numbered_dict t.clone t.clone_dict t.set.digits t.set.digits_dict t.set.clone t.set.clone_dict

  abbrev pub Number : Outcome number_ended
  Number = Allows number_ended (λ w. numbered.number.clauses t.type t.set.type t.numbered t.numbered_dict t.clone t.clone_dict t.set.digits t.set.digits_dict t.set.clone t.set.clone_dict) (λ w. refl)

  abbrev is_known_ended : Ended
  is_known_ended = numbered.is_known.ended t.type t.set.type t.numbered t.numbered_dict t.clone t.clone_dict t.set.digits t.set.digits_dict t.set.clone t.set.clone_dict

  abbrev pub IsKnown : Outcome is_known_ended
  IsKnown = Allows is_known_ended (λ w. numbered.is_known.clauses t.type t.set.type t.numbered t.numbered_dict t.clone t.clone_dict t.set.digits t.set.digits_dict t.set.clone t.set.clone_dict) (λ w. refl)

  abbrev is_in_ended : Ended
  is_in_ended = numbered.is_in.ended t.type t.set.type t.numbered t.numbered_dict t.clone t.clone_dict t.set.digits t.set.digits_dict t.set.clone t.set.clone_dict

  abbrev pub IsIn : Outcome is_in_ended
  IsIn = Allows is_in_ended (λ w. numbered.is_in.clauses t.type t.set.type t.numbered t.numbered_dict t.clone t.clone_dict t.set.digits t.set.digits_dict t.set.clone t.set.clone_dict) (λ w. refl)

  abbrev switched_ended : Ended
  switched_ended = numbered.switched.ended t.type t.set.type t.numbered t.numbered_dict t.clone t.clone_dict t.set.digits t.set.digits_dict t.set.clone t.set.clone_dict

  abbrev pub Switched : Outcome switched_ended
  Switched = Allows switched_ended (λ w. numbered.switched.clauses t.type t.set.type t.numbered t.numbered_dict t.clone t.clone_dict t.set.digits t.set.digits_dict t.set.clone t.set.clone_dict) (λ w. refl)

-- whatever the type, no contract of theirs allows two outcomes
pub record TraitsDetermined : Type 3 where
  pub wide : (s : Set) (κs : _) → Determined (Wide s κs)
  pub narrow : (s : Set) → Told s → (κs : _) → Determined (Narrow s κs)
  pub number : (t : Things) (κs : _) → Determined (Number t κs)
  pub is_known : (t : Things) (κs : _) → Determined (IsKnown t κs)
  pub is_in : (t : Things) (κs : _) → Determined (IsIn t κs)
  pub switched : (t : Things) → Told t.set → (κs : _) → Determined (Switched t κs)

-- ---- those of the product
abbrev pub of_8 : Set
of_8 = record { type = builtin.u8; digits = u8_digits.ghosts; digits_dict = u8_digits.dict; clone = u8_clone.ghosts; clone_dict = u8_clone.dict }

abbrev pub of_16 : Set
of_16 = record { type = builtin.u16; digits = u16_digits.ghosts; digits_dict = u16_digits.dict; clone = u16_clone.ghosts; clone_dict = u16_clone.dict }

abbrev pub applications : Things
applications =
    record {
      set = of_16;
      type = ta_id.the_row;
      numbered = ta_id_numbered.ghosts;
      numbered_dict = ta_id_numbered.dict;
      clone = copied.ghosts ta_id.the_row;
      clone_dict = copied.dict ta_id.the_row;
    }

abbrev pub apps : Things
apps =
    record {
      set = of_8;
      type = sac_app.the_row;
      numbered = sac_app_numbered.ghosts;
      numbered_dict = sac_app_numbered.dict;
      clone = copied.ghosts sac_app.the_row;
      clone_dict = copied.dict sac_app.the_row;
    }

abbrev pub capabilities : Things
capabilities =
    record {
      set = of_8;
      type = capability.the_row;
      numbered = capability_numbered.ghosts;
      numbered_dict = capability_numbered.dict;
      clone = copied.ghosts capability.the_row;
      clone_dict = copied.dict capability.the_row;
    }

-- of them the methods promise what is said of each: κs are lifetimes, a is what is handed in, r what is handed back
pub record NumberedMeans : Type 0 where
  pub known_application_law : (κs a r s : _) → IsKnown applications κs a r s → r ≡ known_application a.0.0
  pub in_applications : (κs a r s : _) → IsIn applications κs a r s → r ≡ is_in a.1.0 a.0.0
  pub switched_application : (κs a r s : _) → Switched applications κs a r s → r ≡ switched application_count a.1.0 a.0.0 a.1.1.0
  pub known_app_law : (κs a r s : _) → IsKnown apps κs a r s → r ≡ known_app a.0.0
  pub in_apps : (κs a r s : _) → IsIn apps κs a r s → r ≡ holds app_count a.1.0 a.0.0
  pub switched_app : (κs a r s : _) → Switched apps κs a r s → r ≡ switched app_count a.1.0 a.0.0 a.1.1.0
  pub in_capabilities : (κs a r s : _) → IsIn capabilities κs a r s → r ≡ holds capability_count a.1.0 a.0.0
  pub switched_capability : (κs a r s : _) → Switched capabilities κs a r s → r ≡ switched capability_count a.1.0 a.0.0 a.1.1.0
