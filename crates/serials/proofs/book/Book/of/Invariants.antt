use Rattle.std.proofs.Common.{take}
use Rattle.serials.specs.IsIndex.{IsIndex}
use Rattle.serials.proofs.book.Book.of.Given as goal

abbrev pub invariant-loop-place : goal.invariant-loop-place
invariant-loop-place l = IsIndex (take l.place l.fn.records) l.index
