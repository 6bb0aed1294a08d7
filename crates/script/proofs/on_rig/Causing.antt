-- Counts of faults over the lines.
use Rattle.std.proofs.Common.{◌≡◌, ℕ, ◌≤◌, sym, ap, subst, arith, inl, inr}
use Rattle.base.specs.Causes.{Rose}
use Rattle.rig.specs.RigState.{RigState}
use Rattle.disk_edge.specs.Disk.{DiskState}
use Rattle.script_lines.specs.declared.reader.LineStop.{LineStop}
use Rattle.script_lines.specs.declared.reader.LineStop.TheVariants as stop
use Rattle.script_lines.specs.Reading.{StopCause}
use Rattle.script.specs.Closing.{Closing, none, read_fault, write_fault, disk_fault, memory, not_at_zero, line_too_long, status_of, closing_for}
use Rattle.script.specs.Causes.{Counts, counts, NoneFell, Causes, NoneRose, Completes}

rose_before : (a b c : ℕ) → a ≤ b → Rose b c → Rose a c
rose_before a b c later rose = omega (arith, rose, later)

pub none_fell : (a : Counts) → NoneFell a a
none_fell a = record { input = omega arith; out = omega arith; disk = omega arith; rig = omega arith }

pub none_fell_and : (a b c : Counts) → NoneFell a b → NoneFell b c → NoneFell a c
none_fell_and a b c first second = record {
  input = omega (arith, first.input, second.input);
  out = omega (arith, first.out, second.out);
  disk = omega (arith, first.disk, second.disk);
  rig = omega (arith, first.rig, second.rig);
}

-- causes of the rest of a call are causes of the whole
pub causes_and : (a b c : Counts) (status : ℕ) → NoneFell a b → Causes b c status → Causes a c status
causes_and a b c status first second = record {
  later = none_fell_and a b c first second.later;
  read_fault = λ was. rose_before a.input b.input c.input first.input (second.read_fault was);
  write_fault = λ was. rose_before a.out b.out c.out first.out (second.write_fault was);
  disk_fault = λ was. rose_before a.disk b.disk c.disk first.disk (second.disk_fault was);
  not_at_zero = λ was. rose_before a.rig b.rig c.rig first.rig (second.not_at_zero was);
}

-- the input was read
pub reads_then : (a : Counts) (i o d r i' : ℕ) → NoneFell a (counts i o d r) → i ≤ i' → NoneFell a (counts i' o d r)
reads_then a i o d r i' first later = record { input = omega (arith, first.input, later); out = first.out; disk = first.disk; rig = first.rig }

same_rig : (rig rig' : RigState) → rig' ≡ rig → rig.faults ≤ rig'.faults
same_rig rig rig' is = omega (arith, ap (λ (s : RigState). s.faults) is)

same_disk : (disk disk' : DiskState) → disk' ≡ disk → disk.faults ≤ disk'.faults
same_disk disk disk' is = omega (arith, ap (λ (s : DiskState). s.faults) is)

module _ (a : Counts) (i o i' o' : ℕ) (rig rig' : RigState) (disk disk' : DiskState) (first : NoneFell a (counts i o disk.faults rig.faults)) (reads : i ≤ i') (writes : o ≤ o') (rig_is : rig' ≡ rig) (disk_is : disk' ≡ disk) where
  none_fell_then : NoneFell a (counts i' o' disk'.faults rig'.faults)
  none_fell_then = record { input = omega (arith, first.input, reads); out = omega (arith, first.out, writes); disk = omega (arith, first.disk, same_disk disk disk' disk_is); rig = omega (arith, first.rig, same_rig rig rig' rig_is) }

  -- all lines were answered
  pub ends_quiet : (status : ℕ) → status ≡ 0 → Causes a (counts i' o' disk'.faults rig'.faults) status
  ends_quiet status is = subst (λ (n : ℕ). Causes a (counts i' o' disk'.faults rig'.faults) n) (sym is)
      (record { later = none_fell_then; read_fault = λ was. cc; write_fault = λ was. cc; disk_fault = λ was. cc; not_at_zero = λ was. cc })

  stop_causes : (stop : LineStop) (number : ℕ) → StopCause i i' stop → Causes a (counts i' o' disk'.faults rig'.faults) (status_of (closing_for stop number))
  stop_causes stop.Failed number cause = record { later = none_fell_then; read_fault = λ was. rose_before a.input i i' first.input cause; write_fault = λ was. cc; disk_fault = λ was. cc; not_at_zero = λ was. cc }
  stop_causes stop.TooLong number cause = record { later = none_fell_then; read_fault = λ was. cc; write_fault = λ was. cc; disk_fault = λ was. cc; not_at_zero = λ was. cc }
  stop_causes stop.Memory number cause = record { later = none_fell_then; read_fault = λ was. cc; write_fault = λ was. cc; disk_fault = λ was. cc; not_at_zero = λ was. cc }

  -- there was no next line to read
  pub ends_reading : (stop : LineStop) (number status : ℕ) → status ≡ status_of (closing_for stop number) → StopCause i i' stop → Causes a (counts i' o' disk'.faults rig'.faults) status
  ends_reading stop number status is cause = subst (λ (n : ℕ). Causes a (counts i' o' disk'.faults rig'.faults) n) (sym is) (stop_causes stop number cause)

-- a call that ends so, where no count rose
pub completes : (before now : Counts) (closing : Closing) (status : ℕ) → status ≡ status_of closing → Causes before now status → Completes before now status
completes before now none status is causes quiet = inl is
completes before now read_fault status is causes quiet = absurd (quiet.input (causes.read_fault is))
completes before now write_fault status is causes quiet = absurd (quiet.out (causes.write_fault is))
completes before now disk_fault status is causes quiet = absurd (quiet.disk (causes.disk_fault is))
completes before now memory status is causes quiet = inr (inl is)
completes before now not_at_zero status is causes quiet = absurd (quiet.rig (causes.not_at_zero is))
completes before now (line_too_long n) status is causes quiet = inr (inr is)

-- no count rose in the rest of a call
pub none_rose_then : (a b c : Counts) → NoneFell a b → NoneRose a c → NoneRose b c
none_rose_then a b c first quiet = record {
  input = λ rose. quiet.input (rose_before a.input b.input c.input first.input rose);
  out = λ rose. quiet.out (rose_before a.out b.out c.out first.out rose);
  disk = λ rose. quiet.disk (rose_before a.disk b.disk c.disk first.disk rose);
  rig = λ rose. quiet.rig (rose_before a.rig b.rig c.rig first.rig rose);
}
