-- What reading the two files gives, and what is written where one gives nothing.
--     FileIs Takes Refuses read most result    what a file gave, of which at most so many bytes were read
--     StopCloses line own sunk stop status      what is written where it gave nothing, and the status
use Rattle.std.specs.Prelude.{◌≡◌, ℕ, List, Result, Ok, Err}
use Rattle.bench_edge.specs.declared.stream.EdgeStop.{EdgeStop}
use Rattle.bench_edge.specs.declared.stream.EdgeStop.TheVariants as edge
use Rattle.bench_edge.specs.Whole.{LostFront}
use Rattle.harness.specs.declared.refusal.HarnessRefusal.{HarnessRefusal}
use Rattle.harness.specs.declared.refusal.HarnessRefusal.TheVariants as refusal
use Rattle.rig_sim.specs.SimRig.{SimState}
use Rattle.wirelist.specs.declared.program.Program.{Program}
use Rattle.wirelist.specs.declared.refusal.WireRefusal.{WireRefusal}
use Rattle.wirelist.specs.declared.refusal.WireRefusal.TheVariants as wire
use Rattle.bench_cli.specs.declared.files.FileStop.{FileStop}
use Rattle.bench_cli.specs.declared.files.FileStop.TheVariants.{Fault, Refused, Memory}
use Rattle.bench_cli.specs.Closing.{Sunk, IsUnasked, ClosesWith, read_fault_line}
use Rattle.bench_cli.specs.Run.{Read, TakesHarness, RefusesHarness, TakesWires, RefusesWires, FailsToRead, most_of_harness, most_of_wires, refusal_line}
use Rattle.bench_cli.specs.Wires.{wires_refusal_line}

abbrev pub edge_stop_of : {E : Type 0} → EdgeStop → FileStop E
edge_stop_of edge.Failed = Fault
edge_stop_of edge.Memory = Memory

-- want of memory is no refusal
abbrev pub harness_stop_of : HarnessRefusal → FileStop HarnessRefusal
harness_stop_of (refusal.BadLine line) = Refused (refusal.BadLine line)
harness_stop_of (refusal.PointRange line) = Refused (refusal.PointRange line)
harness_stop_of (refusal.SecondElement line) = Refused (refusal.SecondElement line)
harness_stop_of (refusal.SameUnit line) = Refused (refusal.SameUnit line)
harness_stop_of refusal.NoEnd = Refused refusal.NoEnd
harness_stop_of (refusal.TooMany line) = Refused (refusal.TooMany line)
harness_stop_of refusal.TooLong = Refused refusal.TooLong
harness_stop_of refusal.Memory = Memory

-- nor of the wirelist
abbrev pub wires_stop_of : WireRefusal → FileStop WireRefusal
wires_stop_of wire.Memory = Memory
wires_stop_of (wire.NotText n) = Refused (wire.NotText n)
wires_stop_of (wire.UnknownKind n) = Refused (wire.UnknownKind n)
wires_stop_of (wire.BadField n f) = Refused (wire.BadField n f)
wires_stop_of wire.NoPart = Refused wire.NoPart
wires_stop_of (wire.SecondRow n) = Refused (wire.SecondRow n)
wires_stop_of (wire.TooManyPoints n) = Refused (wire.TooManyPoints n)
wires_stop_of (wire.Nets e) = Refused (wire.Nets e)
wires_stop_of (wire.SameName n) = Refused (wire.SameName n)
wires_stop_of (wire.BadWindow n) = Refused (wire.BadWindow n)
wires_stop_of (wire.PartInsideNet n) = Refused (wire.PartInsideNet n)
wires_stop_of (wire.TooManyClusters n) = Refused (wire.TooManyClusters n)
wires_stop_of (wire.TooLong n) = Refused (wire.TooLong n)
wires_stop_of (wire.PartPoint n) = Refused (wire.PartPoint n)
wires_stop_of (wire.SecondPart n) = Refused (wire.SecondPart n)
wires_stop_of (wire.TooManyParts n) = Refused (wire.TooManyParts n)

-- what was taken of a file, or why it gave nothing
abbrev pub FileIs : {T E : Type 0} → (T → Type 0) → (E → Type 0) → Read → ℕ → Result T (FileStop E) → Type 0
FileIs Takes Refuses read most (Ok given) = Takes given
FileIs Takes Refuses read most (Err Fault) = FailsToRead read most
FileIs Takes Refuses read most (Err (Refused why)) = Refuses why
FileIs Takes Refuses read most (Err Memory) = LostFront read.left read.left_after most

-- the simulator of the file, or why there is none
abbrev pub HarnessIs : Read → Result SimState (FileStop HarnessRefusal) → Type 0
HarnessIs read result = FileIs (TakesHarness read) (RefusesHarness read) read most_of_harness result

-- the program of the file, or why there is none
abbrev pub WiresAre : Read → Result Program (FileStop WireRefusal) → Type 0
WiresAre read result = FileIs (TakesWires read) (RefusesWires read) read most_of_wires result

-- the line of a refusal, whose status is this
abbrev pub StopCloses : {E : Type 0} → (E → List ℕ) → ℕ → Sunk → FileStop E → ℕ → Type 0
StopCloses line own sunk Fault status = ClosesWith sunk read_fault_line 6 status
StopCloses line own sunk (Refused why) status = ClosesWith sunk (line why) own status
StopCloses line own sunk Memory status = (status ≡ 9) × IsUnasked sunk

abbrev pub HarnessCloses : Sunk → FileStop HarnessRefusal → ℕ → Type 0
HarnessCloses sunk stop status = StopCloses refusal_line 3 sunk stop status

abbrev pub WiresClose : Sunk → FileStop WireRefusal → ℕ → Type 0
WiresClose sunk stop status = StopCloses wires_refusal_line 4 sunk stop status
