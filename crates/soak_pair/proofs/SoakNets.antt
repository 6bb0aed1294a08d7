-- The nets of a soak are nets, and its program is one that a wirelist can give.
use Rattle.std.proofs.Common.{◌≡◌, ◌≢◌, ℕ, zero, suc, ◌+◌, ◌*◌, ◌<◌, ◌≤◌, ◌/◌, true, false, not, List, [], ◌∷◌, length, get_or, map, refl, sym, ◌∙◌, ap, subst, arith, inl, inr, All, Contains, eqb}
use Rattle.std.specs.Prelude.{AllPairs, codes, None, Some}
use Rattle.std.specs.List.{range_with_len}
use Rattle.std.specs.List.Sorted.{IsStrictlyIncreasing}
use Rattle.std.proofs.lemmas.List.{append-nil}
use Rattle.std.proofs.lemmas.List.FromFn.{length-map-range_with_len, get_or-map-range_with_len}
use Rattle.std.proofs.lemmas.Bool.{ne_eqb}
use Rattle.partition.specs.Classes.{points_below, has}
use Rattle.partition.specs.Names.{IsName}
use Rattle.partition.specs.NetTable.{NetTable, IsNetTable, Disjoint, judged_points}
use Rattle.partition.specs.NetFaults.{ascending_net}
use Rattle.partition.proofs.Ascending.{ascending_is}
use Rattle.partition.proofs.tables.KeptLemmas.{points_below-In}
use Rattle.partition.proofs.Members.{In, In-filter, has-In}
use Rattle.wirelist.specs.declared.parts.Resistor.{Resistor}
use Rattle.wirelist.specs.declared.parts.Diode.{Diode}
use Rattle.wirelist.specs.Programs.{IsProgram}
use Rattle.wirelist.specs.Ranges.{most_points}
use Rattle.partition.proofs.tables.NetLaws.{In-index}
use Rattle.learned_program.proofs.ListLemmas.{In-Contains, map-kept}
use Rattle.learned_program.proofs.NameLemmas.{learned_is_name, learned_name-injective}
use Rattle.soak_pair.specs.Pair.{soak_net, soak_nets, soak_name, soak_program}

abbrev pub soak_table : ℕ → NetTable
soak_table n = record { points = n; named = soak_nets n; ignored = [] }

-- ---- one net

net_ascends : (i : ℕ) → IsStrictlyIncreasing (soak_net i)
net_ascends i zero l = omega arith
net_ascends i (suc k) l = absurd (omega arith)

judged : (n p : ℕ) → p < n → Contains (judged_points (soak_table n)) p
judged n p below = In-Contains p (judged_points (soak_table n)) (In-filter (λ x. not (has [] x)) p (points_below n) (points_below-In n p below) refl)

net_judged : (n i : ℕ) → i < n / 2 → All (Contains (judged_points (soak_table n))) (soak_net i)
net_judged n i below zero d l = judged n (2 * i) (omega arith)
net_judged n i below (suc zero) d l = judged n (2 * i + 1) (omega arith)
net_judged n i below (suc (suc q)) d l = absurd (omega arith)

not_held : (a b p : ℕ) → a ≢ p → b ≢ p → has (a ∷ b ∷ []) p ≡ false
not_held a b p one other = rw (ne_eqb a p one, ne_eqb b p other) refl

apart : (i j : ℕ) → i < j → Disjoint (soak_net i) (soak_net j)
apart i j less zero d l = not_held (2 * j) (2 * j + 1) (2 * i) (λ e. omega arith) (λ e. omega arith)
apart i j less (suc zero) d l = not_held (2 * j) (2 * j + 1) (2 * i + 1) (λ e. omega arith) (λ e. omega arith)
apart i j less (suc (suc q)) d l = absurd (omega arith)

held_below : (n i p : ℕ) → i < n / 2 → In p (soak_net i) → p < n
held_below n i p below (inl e) = omega arith
held_below n i p below (inr (inl e)) = omega arith
held_below n i p below (inr (inr none)) = absurd none

net_ascending : (n i : ℕ) → i < n / 2 → ascending_net n (soak_net i) ≡ soak_net i
net_ascending n i below = sym (ascending_is n (soak_net i) (net_ascends i) (λ p held. held_below n i p below (has-In p (soak_net i) held)))

-- ---- all nets

module _ (n : ℕ) where
  size : length (soak_nets n) ≡ n / 2
  size = length-map-range_with_len soak_net 0 (n / 2)

  net_is : (i : ℕ) (d : List ℕ) → i < length (soak_nets n) → get_or (soak_nets n) i d ≡ soak_net i
  net_is i d l = get_or-map-range_with_len soak_net 0 (n / 2) i i d (omega (arith, size)) (omega arith)

  all_nets : (P : List ℕ → Type 0) → ((i : ℕ) → i < n / 2 → P (soak_net i)) → All P (soak_nets n)
  all_nets P each i d l = subst P (sym (net_is i d l)) (each i (omega (arith, size)))

  two_nets : (i j : ℕ) (d : List ℕ) → i < j → j < length (soak_nets n) → Disjoint (get_or (soak_nets n) i d) (get_or (soak_nets n) j d)
  two_nets i j d less l =
      subst (λ (x : List ℕ). Disjoint x (get_or (soak_nets n) j d)) (sym (net_is i d (omega arith)))
      (subst (λ (y : List ℕ). Disjoint (soak_net i) y) (sym (net_is j d l)) (apart i j less))

  pub soak_valid : 1 ≤ n → IsNetTable (soak_table n)
  soak_valid some = record {
    some_point = let one = judged n 0 some in let l = one.1 in omega arith;
    nonempty = all_nets (λ net. 0 < length net) (λ i l. omega arith);
    ascending = all_nets IsStrictlyIncreasing (λ i l. net_ascends i);
    in_range = all_nets (All (Contains (judged_points (soak_table n)))) (net_judged n);
    disjoint = two_nets;
    ignored_ascending = λ k l. absurd (omega arith);
    ignored_in_range = λ i d l. absurd (omega arith);
  }

  pub nets_ascending : map (ascending_net n) (soak_nets n) ≡ soak_nets n
  nets_ascending = map-kept (ascending_net n) (soak_nets n) (λ net held. kept net (In-index net (soak_nets n) held))
    where
      kept : (net : List ℕ) → (k : ℕ) × (k < length (soak_nets n)) × ((d : List ℕ) → get_or (soak_nets n) k d ≡ net) → ascending_net n net ≡ net
      kept net at =
          let is : net ≡ soak_net at.0 = sym (at.2 []) ∙ net_is at.0 [] at.1 in
          ap (ascending_net n) is ∙ net_ascending n at.0 (omega (arith, at.1, size)) ∙ sym is

  -- ---- the program

  abbrev names : List (List ℕ)
  names = map soak_name (range_with_len 0 (n / 2))

  names_size : length names ≡ n / 2
  names_size = length-map-range_with_len soak_name 0 (n / 2)

  name_is : (i : ℕ) (d : List ℕ) → i < length names → get_or names i d ≡ soak_name i
  name_is i d l = get_or-map-range_with_len soak_name 0 (n / 2) i i d (omega (arith, names_size)) (omega arith)

  names_are : n ≤ 4096 → All IsName names
  names_are few i d l = subst IsName (sym (name_is i d l)) (learned_is_name i (omega (arith, names_size)))

  no_two_are_one : n ≤ 4096 → AllPairs (λ (x y : List ℕ). x ≢ y) names
  no_two_are_one few i j d less l = λ same.
      let numbers = learned_name-injective i j (omega (arith, names_size)) (omega (arith, names_size)) (sym (name_is i d (omega arith)) ∙ same ∙ name_is j d l) in
      omega arith

  pub soak_is_program : 1 ≤ n → n ≤ 4096 → IsProgram (soak_program n)
  soak_is_program some few = record {
    part = refl;
    revision = (omega arith, omega arith);
    points = few;
    nets = soak_valid some;
    names = names_are few;
    one_each = names_size ∙ sym size;
    distinct = subst (AllPairs (λ (x y : List ℕ). x ≢ y)) (sym (append-nil names)) (no_two_are_one few);
    components = record {
      resistors = λ i d l. absurd (omega arith);
      diodes = λ i d l. absurd (omega arith);
      few = omega arith;
      inside = record { resistors_in = λ i d l. absurd (omega arith); diodes_in = λ i d l. absurd (omega arith) };
      across = λ i d l. absurd (omega arith);
      apart = λ i j d less l. absurd (omega arith);
    };
    insulation = tt;
    withstand = record { volts = (omega arith, omega arith); steps = refl; ticks = (omega arith, omega arith); nanoamps = (omega arith, omega arith) };
    clusters = tt;
    attempts = (omega arith, omega arith);
  }

  pub valid_by : (part : List ℕ) (nets : NetTable) (listed : List (List ℕ)) (resistors : List Resistor) (diodes : List Diode) → part ≡ codes "SOAK" → nets ≡ soak_table n → listed ≡ names → resistors ≡ [] → diodes ≡ [] → 1 ≤ n → n ≤ 4096
      → IsProgram (record { part = part; revision = 1; nets = nets; names = listed; resistors = resistors; diodes = diodes; insulation = None; withstand = Some (record { volts = 500; ticks = 2; nanoamps = 1000 }); attempts = 3 })
  valid_by part nets listed resistors diodes at_part at_nets at_names at_resistors at_diodes some few = rw (at_part, at_nets, at_names, at_resistors, at_diodes) (soak_is_program some few)
