-- As every export, it promises what the library's function does; so that Same.antt is read, it is cited here.
use Rattle.std.proofs.Common.{rules}
use Rattle.tacit_c.proofs.Same as same
use Rattle.tacit_c.proofs.tacit_sound.Goals as goal

pub returns : goal.returns
returns c = let one = same.tacit_sound in search rules
