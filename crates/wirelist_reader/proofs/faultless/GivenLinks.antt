-- The links of the components, where no component has a fault.
use Rattle.std.proofs.Common.{◌≡◌, ◌≢◌, inl, inr, ℕ, ◌+◌, ◌<◌, true, List, [], ◌++◌, length, get_or, sym, ◌∙◌, ap, subst, arith, take, map, filter, All, AllPairs}
use Rattle.std.proofs.lemmas.Bool.{eq-eqb, and_from, or_left, or_right, both_ways}
use Rattle.std.proofs.lemmas.List.{map-append, get_or_default}
use Rattle.std.proofs.lemmas.List.Elements.{All-from_get_or, All-map}
use Rattle.partition.specs.Classes.{points_below}
use Rattle.partition.specs.NetTable.{NetTable, net_at}
use Rattle.wirelist.specs.Clusters.{component_links, resistor_link, diode_link}
use Rattle.wirelist.specs.Programs.{SameLink}
use Rattle.wirelist_reader.specs.Rows.{row_at, is_kind, number_at, rows_of_kind, ends_in, ends_of_kind, ends_of, resistor_of, diode_of, program_of}
use Rattle.wirelist_reader.specs.Refusals.{joins_same, part_faults, no_ends}
use Rattle.wirelist_reader.specs.declared.parts.PartEnds.{PartEnds}
use Rattle.wirelist_reader.specs.declared.kind.Kind.{Kind}
use Rattle.wirelist_reader.specs.declared.kind.Kind.TheVariants.{Resistor, Diode}
use Rattle.wirelist_reader.proofs.faultless.GivenPairs.{take-In, any-In, AllPairs-map, map-map, filter-places}
use Rattle.wirelist_reader.proofs.faultless.GivenEnds.{sound_at}

module _ (t : NetTable) where
  -- the nets at the ends of a component
  abbrev pub link_of : PartEnds → ℕ × ℕ
  link_of part = (net_at t part.a, net_at t part.b)

  abbrev row_link : List (List ℕ) → ℕ × ℕ
  row_link row = (net_at t (number_at row 2), net_at t (number_at row 3))

  same_joins : (x y : PartEnds) → SameLink (link_of x) (link_of y) → joins_same t y x ≡ true
  same_joins x y (inl e) = or_left _ _ (and_from _ _ (eq-eqb _ _ (sym e.0)) (eq-eqb _ _ (sym e.1)))
  same_joins x y (inr e) = or_right _ _ (and_from _ _ (eq-eqb _ _ (sym e.1)) (eq-eqb _ _ (sym e.0)))

  module _ (parts : List PartEnds) (none : part_faults t parts ≡ []) where
    apart_at : (i j : ℕ) → i < j → j < length parts → SameLink (link_of (get_or parts i no_ends)) (link_of (get_or parts j no_ends)) → ⊥
    apart_at i j before l same =
        let x = get_or parts i no_ends in
        let y = get_or parts j no_ends in
        let known = sound_at t parts none j l in
        both_ways _ known.alone (any-In (joins_same t y) x (take j parts) (take-In i j no_ends parts before (omega arith)) (same_joins x y same))

    pub links_across : All (λ (link : ℕ × ℕ). link.0 ≢ link.1) (map link_of parts)
    links_across =
        All-map (λ (link : ℕ × ℕ). link.0 ≢ link.1) link_of parts
        (All-from_get_or (λ (part : PartEnds). net_at t part.a ≢ net_at t part.b) parts no_ends (λ c l. let known = sound_at t parts none c l in known.across))

    pub links_apart : AllPairs (λ (x y : ℕ × ℕ). SameLink x y → ⊥) (map link_of parts)
    links_apart =
        AllPairs-map (λ (x y : ℕ × ℕ). SameLink x y → ⊥) link_of parts
        (λ i j d before l.
        subst (λ (x : PartEnds). SameLink (link_of x) (link_of (get_or parts j d)) → ⊥) (get_or_default parts i no_ends d (omega arith))
        (subst (λ (y : PartEnds). SameLink (link_of (get_or parts i no_ends)) (link_of y) → ⊥) (get_or_default parts j no_ends d l) (apart_at i j before l)))

  -- the links of the components of one kind
  kind_links : (kind : Kind) (rows : List (List (List ℕ))) → map link_of (ends_of_kind kind rows) ≡ map row_link (rows_of_kind kind rows)
  kind_links kind rows =
      let places : List ℕ = filter (λ i. is_kind kind (row_at rows i)) (points_below (length rows)) in
      map-map link_of (λ (i : ℕ). ends_in (i + 1) (row_at rows i)) places
      ∙ sym (map-map row_link (row_at rows) places)
      ∙ ap (map row_link) (filter-places (is_kind kind) [] rows)

-- the links of the program are those of the ends
pub links_are : (rows : List (List (List ℕ))) → map (link_of (program_of rows).nets) (ends_of rows) ≡ component_links (program_of rows)
links_are rows =
    let t = (program_of rows).nets in
    map-append (link_of t) (ends_of_kind Resistor rows) (ends_of_kind Diode rows)
    ∙ ap (λ (xs : List (ℕ × ℕ)). xs ++ map (link_of t) (ends_of_kind Diode rows)) (kind_links t Resistor rows ∙ sym (map-map (resistor_link t) resistor_of (rows_of_kind Resistor rows)))
    ∙ ap (λ (xs : List (ℕ × ℕ)). map (resistor_link t) (map resistor_of (rows_of_kind Resistor rows)) ++ xs) (kind_links t Diode rows ∙ sym (map-map (diode_link t) diode_of (rows_of_kind Diode rows)))
