-- The parts in which two programs can be equal.
use Rattle.std.specs.Prelude.{◌≡◌}
use Rattle.wirelist.specs.declared.program.Program.{Program}

-- the same part, revision, nets and names
pub record SameWiring (p q : Program) : Type 0 where
  pub part : p.part ≡ q.part
  pub revision : p.revision ≡ q.revision
  pub nets : p.nets ≡ q.nets
  pub names : p.names ≡ q.names

-- the same components
pub record SameParts (p q : Program) : Type 0 where
  pub resistors : p.resistors ≡ q.resistors
  pub diodes : p.diodes ≡ q.diodes

-- the same tests at high voltage, and as many attempts
pub record SameTests (p q : Program) : Type 0 where
  pub insulation : p.insulation ≡ q.insulation
  pub withstand : p.withstand ≡ q.withstand
  pub attempts : p.attempts ≡ q.attempts
