use Rattle.std.proofs.Common.{◌≡◌, ℕ, ◌≤◌, ◌<◌, ◌^◌, List, length, take}
use Rattle.disk_edge.specs.Disk.{IsAsBefore}
use Rattle.journal.specs.Append.{state_of, gates_of}
use Rattle.journal.specs.Format.{end_after}
use Rattle.journal.specs.Journal.{TellsEntries}
use Rattle.ledger.specs.Kept.{AreRecords, spellings}
use Rattle.ledger.proofs.loading.read_records.Given as goal

abbrev pub invariant-loop-index : goal.invariant-loop-index
invariant-loop-index g l = record {
  same : IsAsBefore (state_of l.fn.journal) (state_of l.journal);
  later : (state_of l.fn.journal).faults ≤ (state_of l.journal).faults;
  gates : gates_of l.journal ≡ gates_of l.fn.journal;
  in_range : AreRecords l.records;
  counted : length l.records ≡ l.index;
  spelled : (bodies : List (List ℕ)) → TellsEntries (state_of l.fn.journal) bodies → spellings l.records ≡ take l.index bodies;
  placed : (bodies : List (List ℕ)) → TellsEntries (state_of l.fn.journal) bodies → end_after bodies < 2 ^ 64 → l.place ≡ end_after (spellings l.records);
}
