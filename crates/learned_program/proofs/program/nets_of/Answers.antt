use Rattle.std.proofs.Common.{◌≡◌, ◌∙◌, ℕ, List, [], length, None, Some, ap, sym, inl, inr}
use Rattle.partition.specs.NetTable.{NetTable}
use Rattle.partition.specs.Classes.{points_below}
use Rattle.partition.specs.NetFaults.{ascending_net, first_fault, table_of}
use Rattle.learned_program.specs.LearnedProgram.{learned_nets, learned_table}
use Rattle.learned_program.proofs.ClassLemmas.{learned_valid, learned_ascending}
use Rattle.learned_program.proofs.FaultlessNets.{faultless}
use Rattle.learned_program.proofs.ListLemmas.{none_listed}
use Rattle.learned_program.proofs.program.nets_of.Goals as goal

pub returns-in-Ok : goal.returns-in-Ok
returns-in-Ok c =
    let classes = c.args.partition.now in
    let table : List (List ℕ) → List ℕ → NetTable = λ named ignored. record { points = length classes; named = named; ignored = ignored } in
    c.in-Ok.ensures.nets
    ∙ ap (λ (n : ℕ). table_of n c.in_ok-classes_of.field-0 []) c.points.ensures.points
    ∙ ap (λ (lists : List (List ℕ)). table_of (length classes) lists []) c.in_ok-classes_of.ensures
    ∙ ap (λ (named : List (List ℕ)). table named (ascending_net (length classes) [])) (learned_ascending classes)
    ∙ ap (table (learned_nets classes)) (none_listed (points_below (length classes)))

pub want_of_memory-requires : goal.want_of_memory-requires
want_of_memory-requires c =
    let classes = c.args.partition.now in
    elim c.in-Err.ensures.refused [
      | inl is ↦ is
      | inr fault ↦
          let none : first_fault c.points.result c.in_ok-classes_of.field-0 [] ≡ None =
          ap (λ (n : ℕ). first_fault n c.in_ok-classes_of.field-0 []) c.points.ensures.points
          ∙ ap (λ (lists : List (List ℕ)). first_fault (length classes) lists []) c.in_ok-classes_of.ensures
          ∙ faultless (learned_table classes) (learned_valid classes c.requires) c.requires in
          absurd (let both : None ≡ Some c.in-Err.refusal = sym none ∙ fault in cc)
    ]
