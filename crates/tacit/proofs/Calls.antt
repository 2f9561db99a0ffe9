-- Each event's C call is that event: of any outcome that its contract allows, answer and record are those of the session's `step`, and the room too.
-- It is said of the contracts as the check reads them, so a call with another's contract is refused here, whatever its body is. Assumes nothing.
use mathlib.Core.Path.{◌≡◌}
use lib.ListN.{length}
use Rattle.kinds.specs.Kinds.{all_applications}
use Rattle.wishes.specs.Wishes.{wishes_after}
use Rattle.session.specs.Events.{Initialization, Capability, LocalChange, Wish, Mismatch, Hello, Closed, step, room_after}
use Rattle.record.specs.Record.{decoded}
use Rattle.record.specs.Carried.{Carried}
use Rattle.tacit.proofs.tacit_initialization.Reads as initialization
use Rattle.tacit.proofs.tacit_capability.Reads as capability
use Rattle.tacit.proofs.tacit_local_change.Reads as local_change
use Rattle.tacit.proofs.tacit_wish.Reads as wish
use Rattle.tacit.proofs.tacit_mismatch.Reads as mismatch
use Rattle.tacit.proofs.tacit_hello.Reads as hello
use Rattle.tacit.proofs.tacit_closed.Reads as closed

pub initialization_is : (κs : _) (a r s : _) → initialization.Post κs a r s
    → Carried (step (decoded a.0.now) (Initialization a.1.0.now all_applications)) a.0.now r s.0.now
initialization_is κs a r s p = p

pub capability_is : (κs : _) (a r s : _) → capability.Post κs a r s → Carried (step (decoded a.0.now) (Capability a.1.0.now)) a.0.now r s.0.now
capability_is κs a r s p = p

pub local_change_is : (κs : _) (a r s : _) → local_change.Post κs a r s
    → Carried (step (decoded a.0.now) (LocalChange a.1.0 a.1.1.0 (length a.1.1.1.0.now))) a.0.now r s.0.now
local_change_is κs a r s p = p.0

pub local_change_room : (κs : _) (a r s : _) → local_change.Post κs a r s
    → s.1.1.1.0.now ≡ room_after (decoded a.0.now) (LocalChange a.1.0 a.1.1.0 (length a.1.1.1.0.now)) a.1.1.1.0.now
local_change_room κs a r s p = p.1

pub wish_is : (κs : _) (a r s : _) → wish.Post κs a r s
    → Carried (step (decoded a.0.now) (Wish a.1.0 a.1.1.0 a.1.1.1.0 (length a.1.1.1.1.0.now))) a.0.now r.answer s.0.now
wish_is κs a r s p = p.0

pub wish_wishes : (κs : _) (a r s : _) → wish.Post κs a r s → r.wishes ≡ wishes_after a.1.0 a.1.1.0 a.1.1.1.0 r.answer.refusal
wish_wishes κs a r s p = p.1.0

pub wish_room : (κs : _) (a r s : _) → wish.Post κs a r s
    → s.1.1.1.1.0.now ≡ room_after (decoded a.0.now) (Wish a.1.0 a.1.1.0 a.1.1.1.0 (length a.1.1.1.1.0.now)) a.1.1.1.1.0.now
wish_room κs a r s p = p.1.1

pub mismatch_is : (κs : _) (a r s : _) → mismatch.Post κs a r s → Carried (step (decoded a.0.now) Mismatch) a.0.now r s.0.now
mismatch_is κs a r s p = p

pub hello_is : (κs : _) (a r s : _) → hello.Post κs a r s → Carried (step (decoded a.0.now) (Hello a.1.0)) a.0.now r s.0.now
hello_is κs a r s p = p

pub closed_is : (κs : _) (a r s : _) → closed.Post κs a r s → Carried (step (decoded a.0.now) Closed) a.0.now r s.0.now
closed_is κs a r s p = p
