-- A wirelist can give the learned program.
use Rattle.std.proofs.Common.{◌≡◌, ◌≢◌, ℕ, ◌+◌, ◌<◌, ◌≤◌, List, length, get_or, map, refl, sym, ◌∙◌, subst, arith, ltb, All}
use Rattle.std.specs.Prelude.{AllPairs}
use Rattle.std.specs.List.{range_with_len}
use Rattle.std.proofs.lemmas.List.{append-nil, length-map}
use Rattle.std.proofs.lemmas.List.FromFn.{length-map-range_with_len, get_or-map-range_with_len}
use Rattle.std.proofs.lemmas.List.Sums.{length-filter, count_by-le-length}
use Rattle.partition.specs.Heads.{heads}
use Rattle.partition.specs.Names.{IsName}
use Rattle.partition.proofs.classes.HeadLemmas.{heads_le}
use Rattle.wirelist.specs.Programs.{IsProgram}
use Rattle.wirelist.specs.Ranges.{most_points}
use Rattle.learned_program.specs.LearnedProgram.{class_points, learned_nets, learned_name, learned_names, learned_program}
use Rattle.learned_program.proofs.ClassLemmas.{learned_valid}
use Rattle.learned_program.proofs.NameLemmas.{learned_is_name, learned_name-injective}

-- no more nets than points
nets_few : (classes : List ℕ) → length (learned_nets classes) ≤ length classes
nets_few classes =
    let all = map (class_points classes) (heads classes) in
    let big = λ (net : List ℕ). ltb 1 (length net) in
    omega (arith, length-filter big all, count_by-le-length big all, length-map (heads classes) (class_points classes), heads_le classes)

module _ (k : ℕ) (few : k ≤ most_points) where
  abbrev names : List (List ℕ)
  names = map learned_name (range_with_len 1 k)

  size : length names ≡ k
  size = length-map-range_with_len learned_name 1 k

  name_at : (i : ℕ) (d : List ℕ) → i < length names → get_or names i d ≡ learned_name (1 + i)
  name_at i d l = get_or-map-range_with_len learned_name 1 k i (1 + i) d (omega (arith, size)) refl

  all_names_are : All IsName names
  all_names_are i d l = subst IsName (sym (name_at i d l)) (learned_is_name (1 + i) (omega (arith, size)))

  no_two_are_one : AllPairs (λ (x y : List ℕ). x ≢ y) names
  no_two_are_one i j d less l = λ same.
      let numbers = learned_name-injective (1 + i) (1 + j) (omega (arith, size)) (omega (arith, size)) (sym (name_at i d (omega arith)) ∙ same ∙ name_at j d l) in
      omega arith

pub learned_is_program : (classes : List ℕ) → 0 < length classes → length classes ≤ most_points → IsProgram (learned_program classes)
learned_is_program classes some most =
    let k = length (learned_nets classes) in
    let few : k ≤ most_points = omega (arith, nets_few classes) in
    record {
      part = refl;
      revision = (omega arith, omega arith);
      points = most;
      nets = learned_valid classes some;
      names = all_names_are k few;
      one_each = size k few;
      distinct = subst (AllPairs (λ (x y : List ℕ). x ≢ y)) (sym (append-nil (learned_names (learned_nets classes)))) (no_two_are_one k few);
      components = record {
        resistors = λ i d l. absurd (omega arith);
        diodes = λ i d l. absurd (omega arith);
        few = omega arith;
        inside = record { resistors_in = λ i d l. absurd (omega arith); diodes_in = λ i d l. absurd (omega arith) };
        across = λ i d l. absurd (omega arith);
        apart = λ i j d less l. absurd (omega arith);
      };
      insulation = tt;
      withstand = tt;
      clusters = tt;
      attempts = (omega arith, omega arith);
    }
