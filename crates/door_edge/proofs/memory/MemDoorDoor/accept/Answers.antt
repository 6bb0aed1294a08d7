use Rattle.std.proofs.Common.{suc, arith}
use Rattle.door_edge.proofs.memory.MemDoorDoor.accept.Goals as goal

pub invariant_of-self-in-Some : goal.invariant_of-self-in-Some
invariant_of-self-in-Some c =
    let all = rw c.in-Some.ensures at c.self.invariant in
    λ k d within. all (suc k) d (omega (arith, within))
