use Rattle.std.proofs.Common.{◌≡◌, ◌∙◌, ℕ, List, [], None, Some, ap, sym, inl, inr, arith}
use Rattle.partition.specs.NetTable.{NetTable}
use Rattle.partition.specs.Classes.{points_below}
use Rattle.partition.specs.NetFaults.{ascending_net, first_fault, table_of}
use Rattle.learned_program.proofs.FaultlessNets.{faultless}
use Rattle.learned_program.proofs.ListLemmas.{none_listed}
use Rattle.soak_pair.specs.Pair.{soak_nets}
use Rattle.soak_pair.proofs.SoakNets.{soak_table, soak_valid, nets_ascending}
use Rattle.soak_pair.proofs.program.nets_of.Goals as goal

pub returns-in-Ok : goal.returns-in-Ok
returns-in-Ok c =
    let n = c.args.points in
    let table : List (List ℕ) → List ℕ → NetTable = λ named ignored. record { points = n; named = named; ignored = ignored } in
    c.in-Ok.ensures.nets
    ∙ ap (λ (lists : List (List ℕ)). table_of n lists []) c.in_ok-lists_of.ensures
    ∙ ap (λ (named : List (List ℕ)). table named (ascending_net n [])) (nets_ascending n)
    ∙ ap (table (soak_nets n)) (none_listed (points_below n))

pub want_of_memory-requires : goal.want_of_memory-requires
want_of_memory-requires c =
    let n = c.args.points in
    elim c.in-Err.ensures.refused [
      | inl is ↦ is
      | inr fault ↦
          let none : first_fault n c.in_ok-lists_of.field-0 [] ≡ None =
          ap (λ (lists : List (List ℕ)). first_fault n lists []) c.in_ok-lists_of.ensures ∙ faultless (soak_table n) (soak_valid n c.requires) c.requires in
          absurd (let both : None ≡ Some c.in-Err.refusal = sym none ∙ fault in cc)
    ]
