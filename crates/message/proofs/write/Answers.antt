-- `message::write` meets its contract: no message leaves the room, whatever is said to be written. Assumes nothing.
use mathlib.Core.Path.{◌≡◌, sym, refl}
use native.Mathlib.Omega.{arith}
use mathlib.Core.List.{[]}
use Rattle.octets.proofs.Front.{over_fits}
use Rattle.choice.proofs.Branch.{by_test}
use Rattle.message.proofs.write.Goals as goal

pub returns-in-None : goal.returns-in-None
unfolding Rattle.message.specs.Message.room_with
returns-in-None c = rw c.in-None.is (by_test (λ l. c.args.room.now ≡ l) (λ _. sym (over_fits [] c.args.room.now (omega arith))) (λ _. refl))
