-- Each export promises just what the library's function of its name does: the two contracts are one, by computing. So what the promises say of the library's
-- functions holds of what C calls. Assumes nothing.
use Rattle.std.specs.Prelude.{◌≡◌, refl}
use Rattle.promises.specs.Allowed.{Allows, AllowsBoth, AllowsAll}
use Rattle.tacit.specs.contracts as library
use Rattle.tacit_c.specs.contracts as exported

pub tacit_initialization : Allows exported.tacit_initialization.ended (λ w. exported.tacit_initialization.clauses) (λ w. refl) ≡ Allows library.tacit_initialization.ended (λ w. library.tacit_initialization.clauses) (λ w. refl)
tacit_initialization = refl

pub tacit_capability : Allows exported.tacit_capability.ended (λ w. exported.tacit_capability.clauses) (λ w. refl) ≡ Allows library.tacit_capability.ended (λ w. library.tacit_capability.clauses) (λ w. refl)
tacit_capability = refl

pub tacit_local_change : AllowsBoth exported.tacit_local_change.ended (λ w. exported.tacit_local_change.clauses) (λ w. refl) ≡ AllowsBoth library.tacit_local_change.ended (λ w. library.tacit_local_change.clauses) (λ w. refl)
tacit_local_change = refl

pub tacit_wish : AllowsAll exported.tacit_wish.ended (λ w. exported.tacit_wish.clauses) (λ w. refl) ≡ AllowsAll library.tacit_wish.ended (λ w. library.tacit_wish.clauses) (λ w. refl)
tacit_wish = refl

pub tacit_mismatch : Allows exported.tacit_mismatch.ended (λ w. exported.tacit_mismatch.clauses) (λ w. refl) ≡ Allows library.tacit_mismatch.ended (λ w. library.tacit_mismatch.clauses) (λ w. refl)
tacit_mismatch = refl

pub tacit_hello : Allows exported.tacit_hello.ended (λ w. exported.tacit_hello.clauses) (λ w. refl) ≡ Allows library.tacit_hello.ended (λ w. library.tacit_hello.clauses) (λ w. refl)
tacit_hello = refl

pub tacit_closed : Allows exported.tacit_closed.ended (λ w. exported.tacit_closed.clauses) (λ w. refl) ≡ Allows library.tacit_closed.ended (λ w. library.tacit_closed.clauses) (λ w. refl)
tacit_closed = refl

pub tacit_create : Allows exported.tacit_create.ended (λ w. exported.tacit_create.clauses) (λ w. refl) ≡ Allows library.tacit_create.ended (λ w. library.tacit_create.clauses) (λ w. refl)
tacit_create = refl

pub tacit_read : Allows exported.tacit_read.ended (λ w. exported.tacit_read.clauses) (λ w. refl) ≡ Allows library.tacit_read.ended (λ w. library.tacit_read.clauses) (λ w. refl)
tacit_read = refl

pub tacit_permitted : Allows exported.tacit_permitted.ended (λ w. exported.tacit_permitted.clauses) (λ w. refl) ≡ Allows library.tacit_permitted.ended (λ w. library.tacit_permitted.clauses) (λ w. refl)
tacit_permitted = refl

pub tacit_permitted_kinds : Allows exported.tacit_permitted_kinds.ended (λ w. exported.tacit_permitted_kinds.clauses) (λ w. refl) ≡ Allows library.tacit_permitted_kinds.ended (λ w. library.tacit_permitted_kinds.clauses) (λ w. refl)
tacit_permitted_kinds = refl

pub tacit_why_not : Allows exported.tacit_why_not.ended (λ w. exported.tacit_why_not.clauses) (λ w. refl) ≡ Allows library.tacit_why_not.ended (λ w. library.tacit_why_not.clauses) (λ w. refl)
tacit_why_not = refl

pub tacit_wish_sac : Allows exported.tacit_wish_sac.ended (λ w. exported.tacit_wish_sac.clauses) (λ w. refl) ≡ Allows library.tacit_wish_sac.ended (λ w. library.tacit_wish_sac.clauses) (λ w. refl)
tacit_wish_sac = refl

pub tacit_wanted : Allows exported.tacit_wanted.ended (λ w. exported.tacit_wanted.clauses) (λ w. refl) ≡ Allows library.tacit_wanted.ended (λ w. library.tacit_wanted.clauses) (λ w. refl)
tacit_wanted = refl

pub tacit_retry_interval : Allows exported.tacit_retry_interval.ended (λ w. exported.tacit_retry_interval.clauses) (λ w. refl) ≡ Allows library.tacit_retry_interval.ended (λ w. library.tacit_retry_interval.clauses) (λ w. refl)
tacit_retry_interval = refl

pub tacit_sound : Allows exported.tacit_sound.ended (λ w. exported.tacit_sound.clauses) (λ w. refl) ≡ Allows library.tacit_sound.ended (λ w. library.tacit_sound.clauses) (λ w. refl)
tacit_sound = refl

pub tacit_load : Allows exported.tacit_load.ended (λ w. exported.tacit_load.clauses) (λ w. refl) ≡ Allows library.tacit_load.ended (λ w. library.tacit_load.clauses) (λ w. refl)
tacit_load = refl

pub tacit_store : Allows exported.tacit_store.ended (λ w. exported.tacit_store.clauses) (λ w. refl) ≡ Allows library.tacit_store.ended (λ w. library.tacit_store.clauses) (λ w. refl)
tacit_store = refl

pub tacit_forward : Allows exported.tacit_forward.ended (λ w. exported.tacit_forward.clauses) (λ w. refl) ≡ Allows library.tacit_forward.ended (λ w. library.tacit_forward.clauses) (λ w. refl)
tacit_forward = refl

pub tacit_back : Allows exported.tacit_back.ended (λ w. exported.tacit_back.clauses) (λ w. refl) ≡ Allows library.tacit_back.ended (λ w. library.tacit_back.clauses) (λ w. refl)
tacit_back = refl

pub tacit_no_limits : Allows exported.tacit_no_limits.ended (λ w. exported.tacit_no_limits.clauses) (λ w. refl) ≡ Allows library.tacit_no_limits.ended (λ w. library.tacit_no_limits.clauses) (λ w. refl)
tacit_no_limits = refl

pub tacit_set_limit : Allows exported.tacit_set_limit.ended (λ w. exported.tacit_set_limit.clauses) (λ w. refl) ≡ Allows library.tacit_set_limit.ended (λ w. library.tacit_set_limit.clauses) (λ w. refl)
tacit_set_limit = refl

pub tacit_row_count : Allows exported.tacit_row_count.ended (λ w. exported.tacit_row_count.clauses) (λ w. refl) ≡ Allows library.tacit_row_count.ended (λ w. library.tacit_row_count.clauses) (λ w. refl)
tacit_row_count = refl

pub tacit_kind_total : Allows exported.tacit_kind_total.ended (λ w. exported.tacit_kind_total.clauses) (λ w. refl) ≡ Allows library.tacit_kind_total.ended (λ w. library.tacit_kind_total.clauses) (λ w. refl)
tacit_kind_total = refl

pub tacit_recount : Allows exported.tacit_recount.ended (λ w. exported.tacit_recount.clauses) (λ w. refl) ≡ Allows library.tacit_recount.ended (λ w. library.tacit_recount.clauses) (λ w. refl)
tacit_recount = refl

pub tacit_row_event : Allows exported.tacit_row_event.ended (λ w. exported.tacit_row_event.clauses) (λ w. refl) ≡ Allows library.tacit_row_event.ended (λ w. library.tacit_row_event.clauses) (λ w. refl)
tacit_row_event = refl
