use Rattle.std.proofs.Common.{◌≡◌, ℕ, ◌-◌, ◌≤◌, List, ◌++◌, length, Some}
use Rattle.script_lines.proofs.reader.next_line.Given as goal

-- what was to come is what is pending and what is left
abbrev pub invariant-reads : goal.invariant-reads
invariant-reads g l = record {
  told : (left : List ℕ) → g.I.Stream.left l.fn.input ≡ Some left → (behind : List ℕ) × (g.I.Stream.left l.input ≡ Some behind) × (l.fn.pending ++ left ≡ l.pending ++ behind);
  later : g.I.Stream.read_faults l.fn.input ≤ g.I.Stream.read_faults l.input;
}

abbrev pub decreases-reads : goal.decreases-reads
decreases-reads g l = 201 - length l.pending
