-- Trees of points: climbing to a root, making two trees one, and rows one after another.
use Rattle.std.proofs.Common.{◌≡◌, ◌⊎◌, ℕ, ◌+◌, ◌<◌, ◌≤◌, ◌^◌, min, max, Bool, true, false, cond, eqb, List, [], ◌∷◌, ◌++◌, Option, Some, None, length, get_or, take, refl, sym, ◌∙◌, ap, subst, inl, inr, ⊎_elim, arith}
use Rattle.std.specs.Prelude.{Contains, All, nat_le}
use Rattle.std.specs.List.{filter_map}
use Rattle.std.proofs.Math.ListN.{set}
use Rattle.std.proofs.lemmas.List.{append-nil, length-set, get_or-set_same, get_or-set_other, ext_get_or, get_or_default, take_more}
use Rattle.std.proofs.lemmas.List.Elements.{Contains-push, Contains-append_left, Contains-push_cases, filter_map-append}
use Rattle.std.proofs.lemmas.List.FromFn.{length-range_with_len, get_or-range_with_len}
use Rattle.std.proofs.lemmas.List.Sums.{fold-append}
use Rattle.std.proofs.lemmas.Bool.Decides.{eqb_tells}
use Rattle.partition.specs.Classes.{points_below, class_at, no_class, merged, classes_by, judged_in, joined_by}
use Rattle.partition.specs.Partitions.{IsLabel}
use Rattle.partition.proofs.classes.WalkLaws.{merged_class, length-merged, point_class}
use Rattle.partition.proofs.classes.JoinedPartition.{joined_by-own}
use Rattle.partition.proofs.classes.JudgedPartition.{all-classing, classing-IsPartition}
use Rattle.rig.specs.declared.unit.Row.{Row}
use Rattle.rig.specs.declared.unit.Row.TheVariants.{Wire, Resistor, Diode, Leak, Arc, Charge}
use Rattle.rig.specs.Joins.{IsRowBelow, join_of, joins_of, joined_classes, most_join}
use Rattle.rig.proofs.RowsBelow.{joins_below}
use Rattle.harness.specs.Forest.{Descends, IsForest, AreListed, Climbs, Links}

-- a list with one number written
abbrev Written : List ℕ → ℕ → ℕ → ℕ → Type 0
Written xs i v p = ((p ≡ i) × (get_or (set xs i v) p 0 ≡ v)) ⊎ ((p ≡ i → ⊥) × (get_or (set xs i v) p 0 ≡ get_or xs p 0))

written : (xs : List ℕ) (i v p : ℕ) → i < length xs → Written xs i v p
written xs i v p inside =
    elim (eqb_tells p i) [
      | inl e ↦ inl (e.1, ap (λ k. get_or (set xs i v) k 0) e.1 ∙ get_or-set_same xs i v 0 inside)
      | inr e ↦ inr (e.1, get_or-set_other xs i p v 0 e.1)
    ]

-- ---- one step up

module _ (ps : List ℕ) (at parent above : ℕ) (inside : at < length ps) (down : Descends ps) (parent_is : parent ≡ get_or ps at 0) (above_is : above ≡ get_or ps parent 0) where
  not_above : parent ≤ at
  not_above = let d = down at inside in omega arith

  nor_higher : above ≤ parent
  nor_higher = let d = down parent (let h = not_above in omega arith) in omega arith

  up_down : Descends (set ps at above)
  up_down p short =
      let small : p < length ps = omega (arith, length-set ps at above) in
      let one = not_above in
      let two = nor_higher in
      let d = down p small in
      ⊎_elim (λ here. let e = here.0 in let v = here.1 in omega arith) (λ other. let v = other.1 in omega arith) (written ps at above p inside)

  up_fixed : (p : ℕ) → p < length ps → get_or ps p 0 ≡ p → get_or (set ps at above) p 0 ≡ p
  up_fixed p small e =
      ⊎_elim
      (λ here.
      let is : parent ≡ p = parent_is ∙ sym (ap (λ k. get_or ps k 0) here.0) ∙ e in
      here.1 ∙ above_is ∙ ap (λ k. get_or ps k 0) is ∙ e)
      (λ other. other.1 ∙ e) (written ps at above p inside)

  up_forest : (m : List ℕ) → IsForest ps m → IsForest (set ps at above) m
  up_forest m f =
      let low : parent < length ps = let h = not_above in omega arith in
      let to_parent : class_at m parent ≡ class_at m at = ap (class_at m) parent_is ∙ f.same at inside in
      let to_above : class_at m above ≡ class_at m parent = ap (class_at m) above_is ∙ f.same parent low in record {
        size = length-set ps at above ∙ f.size;
        down = up_down;
        same = λ p short.
            let small : p < length ps = omega (arith, length-set ps at above) in
            ⊎_elim
            (λ here. ap (class_at m) here.1 ∙ to_above ∙ to_parent ∙ sym (ap (class_at m) here.0))
            (λ other. ap (class_at m) other.1 ∙ f.same p small) (written ps at above p inside);
        root = λ p short e.
            let small : p < length ps = omega (arith, length-set ps at above) in
            let one = not_above in
            let two = nor_higher in
            ⊎_elim
            (λ here.
            let high : parent ≡ at = let a = here.0 in let b = here.1 in omega arith in
            ap (class_at m) here.0 ∙ f.root at inside (sym parent_is ∙ high) ∙ sym here.0)
            (λ other. f.root p small (sym other.1 ∙ e)) (written ps at above p inside);
      }

-- one step of a climb
pub climb_step : (old ps : List ℕ) (from at parent above : ℕ) → Climbs old ps from at → parent ≡ get_or ps at 0 → above ≡ get_or ps parent 0 → Climbs old (set ps at above) from above
climb_step old ps from at parent above c parent_is above_is =
    let inside : at < length ps = let i = c.inside in let s = c.size in omega arith in
    let low = not_above ps at parent above inside c.down parent_is above_is in
    let lower = nor_higher ps at parent above inside c.down parent_is above_is in record {
      size = length-set ps at above ∙ c.size;
      inside = let i = c.inside in omega arith;
      down = up_down ps at parent above inside c.down parent_is above_is;
      forest = λ m f. up_forest ps at parent above inside c.down parent_is above_is m (c.forest m f);
      same = λ m f.
          let g = c.forest m f in
          ap (class_at m) above_is ∙ g.same parent (omega arith) ∙ ap (class_at m) parent_is ∙ g.same at inside ∙ c.same m f;
      fixed = λ p small e. up_fixed ps at parent above inside c.down parent_is above_is p (let s = c.size in omega arith) (c.fixed p small e);
    }

-- a climb that did not begin
pub climb_start : (ps : List ℕ) (at : ℕ) → at < length ps → Descends ps → Climbs ps ps at at
climb_start ps at inside down = record { size = refl; inside = inside; down = down; forest = λ m f. f; same = λ m f. refl; fixed = λ p small e. e }

-- the next point is lower
pub climb_lower : (old ps : List ℕ) (from at parent above : ℕ) → Climbs old ps from at → parent ≡ get_or ps at 0 → above ≡ get_or ps parent 0 → (parent ≡ at → ⊥) → above < at
climb_lower old ps from at parent above c parent_is above_is moves =
    let inside : at < length ps = let i = c.inside in let s = c.size in omega arith in
    let low = not_above ps at parent above inside c.down parent_is above_is in
    let lower = nor_higher ps at parent above inside c.down parent_is above_is in
    let parts : parent < at = elim (eqb_tells parent at) [ inl e ↦ absurd (moves e.1) | inr e ↦ let ne = e.1 in omega arith ] in
    omega arith

pub parent_inside : (old ps : List ℕ) (from at parent : ℕ) → Climbs old ps from at → parent ≡ get_or ps at 0 → parent < length ps
parent_inside old ps from at parent c parent_is =
    let s = c.size in
    let i = c.inside in
    let d = c.down at (omega arith) in omega arith

-- ---- two trees made one

merge_low : (x high low : ℕ) → x ≡ low → cond (eqb x high) low x ≡ low
merge_low x high low e = elim (eqb_tells x high) [ inl f ↦ rw f.0 refl | inr f ↦ rw f.0 e ]

merge_high : (x high low : ℕ) → x ≡ high → cond (eqb x high) low x ≡ low
merge_high x high low e = elim (eqb_tells x high) [ inl f ↦ rw f.0 refl | inr f ↦ absurd (f.1 e) ]

merge_kept : (x high low : ℕ) → (x ≡ high → ⊥) → cond (eqb x high) low x ≡ x
merge_kept x high low ne = elim (eqb_tells x high) [ inl f ↦ absurd (ne f.1) | inr f ↦ rw f.0 refl ]

module _ (ps m : List ℕ) (a b one other low high : ℕ) (f : IsForest ps m) (one_is : class_at m a ≡ one) (other_is : class_at m b ≡ other) (low_is : low ≡ min one other) (high_is : high ≡ max one other)
    (inside : high < length ps) (root_one : class_at m one ≡ one) (root_other : class_at m other ≡ other) where
  class_merged : (p : ℕ) → p < length ps → class_at (merged m a b) p ≡ cond (eqb (class_at m p) high) low (class_at m p)
  class_merged p small =
      merged_class m a b p (let s = f.size in omega arith)
      ∙ ap (λ k. cond (eqb (class_at m p) (max k (class_at m b))) (min k (class_at m b)) (class_at m p)) one_is
      ∙ ap (λ k. cond (eqb (class_at m p) (max one k)) (min one k) (class_at m p)) other_is
      ∙ ap (λ k. cond (eqb (class_at m p) k) (min one other) (class_at m p)) (sym high_is)
      ∙ ap (λ k. cond (eqb (class_at m p) high) k (class_at m p)) (sym low_is)

  low_root : class_at m low ≡ low
  low_root =
      ⊎_elim (λ e. ap (class_at m) e ∙ root_one ∙ sym e) (λ e. ap (class_at m) e ∙ root_other ∙ sym e)
      (pick one other low low_is)
    where
      pick : (x y l : ℕ) → l ≡ min x y → (l ≡ x) ⊎ (l ≡ y)
      pick x y l is = elim (eqb_tells l x) [ inl e ↦ inl e.1 | inr e ↦ inr (let ne = e.1 in omega arith) ]

  high_root : class_at m high ≡ high
  high_root =
      ⊎_elim (λ e. ap (class_at m) e ∙ root_one ∙ sym e) (λ e. ap (class_at m) e ∙ root_other ∙ sym e)
      (pick one other high high_is)
    where
      pick : (x y h : ℕ) → h ≡ max x y → (h ≡ x) ⊎ (h ≡ y)
      pick x y h is = elim (eqb_tells h x) [ inl e ↦ inl e.1 | inr e ↦ inr (let ne = e.1 in omega arith) ]

  low_merged : class_at (merged m a b) low ≡ low
  low_merged = class_merged low (omega arith) ∙ merge_low (class_at m low) high low low_root

  high_merged : class_at (merged m a b) high ≡ low
  high_merged = class_merged high inside ∙ merge_high (class_at m high) high low high_root

  link_down : Descends (set ps high low)
  link_down p short =
      let small : p < length ps = omega (arith, length-set ps high low) in
      let d = f.down p small in
      ⊎_elim (λ here. let e = here.0 in let v = here.1 in omega arith) (λ apart. let v = apart.1 in omega arith) (written ps high low p inside)

  link_forest : IsForest (set ps high low) (merged m a b)
  link_forest = record {
    size = length-set ps high low ∙ f.size ∙ sym (length-merged m a b);
    down = link_down;
    same = λ p short.
        let small : p < length ps = omega (arith, length-set ps high low) in
        ⊎_elim
        (λ here. ap (class_at (merged m a b)) here.1 ∙ low_merged ∙ sym (ap (class_at (merged m a b)) here.0 ∙ high_merged))
        (λ apart.
        let up : get_or ps p 0 < length ps = let d = f.down p small in omega arith in
        ap (class_at (merged m a b)) apart.1
        ∙ class_merged (get_or ps p 0) up ∙ ap (λ k. cond (eqb k high) low k) (f.same p small) ∙ sym (class_merged p small))
        (written ps high low p inside);
    root = λ p short e.
        let small : p < length ps = omega (arith, length-set ps high low) in
        ⊎_elim
        (λ here.
        let is : low ≡ p = sym here.1 ∙ e in
        ap (class_at (merged m a b)) (sym is) ∙ low_merged ∙ is)
        (λ apart.
        let own : class_at m p ≡ p = f.root p small (sym apart.1 ∙ e) in
        class_merged p small ∙ merge_kept (class_at m p) high low (λ h. apart.0 (sym own ∙ h)) ∙ own)
        (written ps high low p inside);
  }

-- two climbs to roots, and the greater root below the lesser
pub link_all_of : (old one_ps ps moved : List ℕ) (a b one other low high : ℕ) → Climbs old one_ps a one → get_or one_ps one 0 ≡ one → Climbs one_ps ps b other → get_or ps other 0 ≡ other →
    low ≡ min one other → high ≡ max one other → Links old (set ps high low) moved (moved ++ (high ∷ [])) a b
link_all_of old one_ps ps moved a b one other low high first first_root second second_root low_is high_is =
    let s1 = first.size in
    let s2 = second.size in
    let i1 = first.inside in
    let i2 = second.inside in
    let inside : high < length ps = omega arith in
    let one_in : one < length ps = omega arith in
    let other_in : other < length ps = omega arith in
    let one_root : get_or ps one 0 ≡ one = second.fixed one (omega arith) first_root in record {
      size = length-set ps high low ∙ second.size ∙ first.size;
      down = λ p short.
          let small : p < length ps = omega (arith, length-set ps high low) in
          let d = second.down p small in
          ⊎_elim (λ here. let e = here.0 in let v = here.1 in omega arith) (λ apart. let v = apart.1 in omega arith) (written ps high low p inside);
      forest = λ m f.
          let g = first.forest m f in
          let h = second.forest m g in
          let own_one = h.root one one_in one_root in
          let own_other = h.root other other_in second_root in
          link_forest ps m a b one other low high h (sym (first.same m f) ∙ own_one) (sym (second.same m g) ∙ own_other) low_is high_is inside own_one own_other;
      listed = λ listed p short.
          let small : p < length ps = omega (arith, length-set ps high low) in
          let before = listed p (omega arith) in
          ⊎_elim
          (λ here. inr (subst (λ k. Contains (moved ++ (high ∷ [])) k) (sym here.0) (Contains-push moved high)))
          (λ apart. ⊎_elim
          (λ own. inl (apart.1 ∙ second.fixed p (omega arith) (first.fixed p (omega arith) own)))
          (λ found. inr (Contains-append_left moved (high ∷ []) p found)) before)
          (written ps high low p inside);
    }

-- ---- rows one after another

-- the points alone are a forest of single trees
pub alone_forest : (ps : List ℕ) (n : ℕ) → ps ≡ points_below n → IsForest ps (points_below n)
alone_forest ps n is = rw is (record {
  size = refl;
  down = λ p short. let e = at p short in omega arith;
  same = λ p short. ap (class_at (points_below n)) (at p short);
  root = λ p short e. point_class n p (omega (arith, length-range_with_len 0 n));
})
  where
    at : (p : ℕ) → p < length (points_below n) → get_or (points_below n) p 0 ≡ p
    at p short = let e = get_or-range_with_len 0 n p 0 (omega (arith, length-range_with_len 0 n)) in omega arith

pub alone_listed : (ps moved : List ℕ) (n : ℕ) → ps ≡ points_below n → AreListed ps moved
alone_listed ps moved n is = rw is (λ p short. inl (at p short))
  where
    at : (p : ℕ) → p < length (points_below n) → get_or (points_below n) p 0 ≡ p
    at p short = let e = get_or-range_with_len 0 n p 0 (omega (arith, length-range_with_len 0 n)) in omega arith

-- how far the rows were joined
pub record Linking (rows : List Row) (n i : ℕ) (ps moved : List ℕ) : Type 0 where
  pub size : length ps ≡ n
  pub forest : IsForest ps (joined_classes (take i rows) n)
  pub listed : AreListed ps moved

pub linking_start : (rows : List Row) (ps moved : List ℕ) → ps ≡ points_below (length ps) → Linking rows (length ps) 0 ps moved
linking_start rows ps moved alone = record { size = refl; forest = alone_forest ps (length ps) alone; listed = alone_listed ps moved (length ps) alone }

join_last : (row : Row) (join : Option (ℕ × ℕ)) → join_of row ≡ join → filter_map join_of (row ∷ []) ≡ filter_map (λ (j : Option (ℕ × ℕ)). j) (join ∷ [])
join_last row None e = rw e refl
join_last row (Some x) e = rw e refl

joined_more : (rows : List Row) (row : Row) (n i : ℕ) → i < length rows → row ≡ get_or rows i row → joined_classes (take (i + 1) rows) n ≡ joined_by (joins_of (take i rows) ++ filter_map join_of (row ∷ [])) n
joined_more rows row n i short at =
    ap (λ (rs : List Row). joined_classes rs n) (take_more rows i row short)
    ∙ ap (λ (r : Row). joined_classes (take i rows ++ (r ∷ [])) n) (sym at)
    ∙ ap (λ js. joined_by js n) (filter_map-append join_of (take i rows) (row ∷ []))

pub linking_none : (rows : List Row) (row : Row) (n i : ℕ) (ps moved : List ℕ) → i < length rows → row ≡ get_or rows i row → join_of row ≡ None → Linking rows n i ps moved → Linking rows n (i + 1) ps moved
linking_none rows row n i ps moved short at none l =
    let same : joined_classes (take (i + 1) rows) n ≡ joined_classes (take i rows) n =
    joined_more rows row n i short at ∙ ap (λ js. joined_by (joins_of (take i rows) ++ js) n) (join_last row None none) ∙ ap (λ js. joined_by js n) (append-nil (joins_of (take i rows))) in
    record { size = l.size; forest = subst (IsForest ps) (sym same) l.forest; listed = l.listed }

pub linking_some : (rows : List Row) (row : Row) (n i a b : ℕ) (ps new moved moved' : List ℕ) → i < length rows → row ≡ get_or rows i row → join_of row ≡ Some (a, b) →
    Linking rows n i ps moved → Links ps new moved moved' a b → Linking rows n (i + 1) new moved'
linking_some rows row n i a b ps new moved moved' short at some l links =
    let same : joined_classes (take (i + 1) rows) n ≡ merged (joined_classes (take i rows) n) a b =
    joined_more rows row n i short at ∙ ap (λ js. joined_by (joins_of (take i rows) ++ js) n) (join_last row (Some (a, b)) some)
    ∙ fold-append (λ classes (join : ℕ × ℕ). merged classes join.0 join.1) (points_below n) (joins_of (take i rows)) ((a, b) ∷ []) in
    record { size = links.size ∙ l.size; forest = subst (IsForest new) (sym same) (links.forest (joined_classes (take i rows) n) l.forest); listed = links.listed l.listed }

abbrev pub some : ℕ → ℕ → Option (ℕ × ℕ)
some a b = Some (a, b)

abbrev first_or : Option (ℕ × ℕ) → ℕ
first_or None = 0
first_or (Some p) = p.0

abbrev second_or : Option (ℕ × ℕ) → ℕ
second_or None = 0
second_or (Some p) = p.1

pub some_pair : (c d a b : ℕ) → some c d ≡ some a b → (c ≡ a) × (d ≡ b)
some_pair c d a b e = (ap first_or e, ap second_or e)

pub pair_below : (n c d a b : ℕ) → (c < n) × (d < n) → (c ≡ a) × (d ≡ b) → (a < n) × (b < n)
pair_below n c d a b below same = let x = same.0 in let y = same.1 in let h = below.0 in let k = below.1 in (omega arith, omega arith)

-- the ends of a row of the list
join_below : (n : ℕ) (row : Row) (a b : ℕ) → IsRowBelow n row → join_of row ≡ Some (a, b) → (a < n) × (b < n)
join_below n (Wire c d) a b below e = pair_below n c d a b below (some_pair c d a b e)
join_below n (Resistor c d r) a b below e = go (nat_le r most_join) e
  where
    go : (small : Bool) → cond small (some c d) None ≡ Some (a, b) → (a < n) × (b < n)
    go true f = pair_below n c d a b below (some_pair c d a b f)
    go false f = cc
join_below n (Diode c d v) a b below e = cc
join_below n (Leak c d g) a b below e = cc
join_below n (Arc c d v) a b below e = cc
join_below n (Charge v x) a b below e = cc

pub ends_below : (rows : List Row) (row : Row) (n i a b : ℕ) → All (IsRowBelow n) rows → i < length rows → row ≡ get_or rows i row → join_of row ≡ Some (a, b) → (a < n) × (b < n)
ends_below rows row n i a b below short at some = join_below n row a b (subst (IsRowBelow n) (sym at) (below i row short)) some

-- ---- all points below their roots

-- the points before i are
pub record Flattened (old new : List ℕ) (i : ℕ) : Type 0 where
  pub size : length new ≡ length old
  pub below : (m : List ℕ) → IsForest old m → (k : ℕ) → k < i → get_or new k 0 ≡ class_at m k
  pub above : (k : ℕ) → i ≤ k → get_or new k 0 ≡ get_or old k 0

pub flat_start : (old : List ℕ) → Flattened old old 0
flat_start old = record { size = refl; below = λ m f k short. absurd (omega arith); above = λ k from. refl }

pub flat_inside : (old new : List ℕ) (i parent : ℕ) → Descends old → Flattened old new i → i < length new → parent ≡ get_or new i 0 → parent < length new
flat_inside old new i parent down flat short is = let s = flat.size in let e = flat.above i (omega arith) in let d = down i (omega arith) in omega arith

pub flat_step : (old new : List ℕ) (i parent root : ℕ) → Descends old → Flattened old new i → i < length new → parent ≡ get_or new i 0 → root ≡ get_or new parent 0 → Flattened old (set new i root) (i + 1)
flat_step old new i parent root down flat short parent_is root_is =
    let s = flat.size in
    let same = flat.above i (omega arith) in
    let d = down i (omega arith) in record {
      size = length-set new i root ∙ flat.size;
      below = λ m f k small.
          ⊎_elim
          (λ here. here.1 ∙ class_of m f ∙ ap (class_at m) (sym here.0))
          (λ apart. apart.1 ∙ flat.below m f k (let ne = apart.0 in less k ne small)) (written new i root k short);
      above = λ k from. ⊎_elim (λ here. absurd (let e = here.0 in omega arith)) (λ apart. apart.1 ∙ flat.above k (omega arith)) (written new i root k short);
    }
  where
    less : (k : ℕ) → (k ≡ i → ⊥) → k < i + 1 → k < i
    less k ne small = elim (eqb_tells k i) [ inl e ↦ absurd (ne e.1) | inr e ↦ let apart = e.1 in omega arith ]

    class_of : (m : List ℕ) → IsForest old m → root ≡ class_at m i
    class_of m f =
        let s = flat.size in
        let here : parent ≡ get_or old i 0 = parent_is ∙ flat.above i (omega arith) in
        let d = down i (omega arith) in
        elim (eqb_tells parent i) [
          | inl e ↦
              let own : get_or old i 0 ≡ i = sym here ∙ e.1 in
              root_is ∙ ap (λ k. get_or new k 0) e.1 ∙ flat.above i (omega arith) ∙ own ∙ sym (f.root i (omega arith) own)
          | inr e ↦
              let ne = e.1 in
              root_is ∙ flat.below m f parent (omega arith) ∙ ap (class_at m) here ∙ f.same i (omega arith)
        ]

pub flat_end : (old new : List ℕ) (i : ℕ) → length new ≤ i → Flattened old new i → (m : List ℕ) → IsForest old m → new ≡ m
flat_end old new i all flat m f =
    let s = flat.size in
    let t = f.size in
    ext_get_or 0 new m (omega arith) (λ k short. flat.below m f k (omega arith) ∙ get_or_default m k no_class 0 (omega arith))

-- ---- the points alone again

pub alone_again : (ps moved : List ℕ) (n : ℕ) → length ps ≡ n → moved ≡ [] → AreListed ps moved → ps ≡ points_below n
alone_again ps moved n size none listed =
    ext_get_or 0 ps (points_below n) (size ∙ sym (length-range_with_len 0 n))
    (λ p short.
    let at = get_or-range_with_len 0 n p 0 (omega arith) in
    ⊎_elim (λ own. own ∙ (let e : p ≡ 0 + p = omega arith in e) ∙ sym at) (λ found. absurd (empty p (subst (λ (xs : List ℕ). Contains xs p) none found))) (listed p short))
  where
    empty : (p : ℕ) → Contains [] p → ⊥
    empty p found = let s = found.1 in omega arith

-- one point fewer that is not alone
pub back_step : (ps moved rest : List ℕ) (point : ℕ) → moved ≡ rest ++ (point ∷ []) → point < length ps → AreListed ps moved → AreListed (set ps point point) rest
back_step ps moved rest point is inside listed p small =
    ⊎_elim
    (λ here. inl (here.1 ∙ sym here.0))
    (λ apart. ⊎_elim (λ own. inl (apart.1 ∙ own))
    (λ found. ⊎_elim (λ kept. inr kept) (λ last. absurd (apart.0 (sym last))) (Contains-push_cases rest point p (subst (λ (xs : List ℕ). Contains xs p) is found)))
    (listed p (omega (arith, length-set ps point point))))
    (written ps point point p inside)

pub back_skip : (ps moved rest : List ℕ) (point : ℕ) → moved ≡ rest ++ (point ∷ []) → length ps ≤ point → AreListed ps moved → AreListed ps rest
back_skip ps moved rest point is outside listed p small =
    ⊎_elim (λ own. inl own)
    (λ found. ⊎_elim (λ kept. inr kept) (λ last. absurd (let e = last in omega arith)) (Contains-push_cases rest point p (subst (λ (xs : List ℕ). Contains xs p) is found)))
    (listed p small)

-- a climb leaves the points that are alone
pub climb_listed : (old new moved : List ℕ) (from to : ℕ) → Climbs old new from to → AreListed old moved → AreListed new moved
climb_listed old new moved from to c listed p small =
    let s = c.size in ⊎_elim (λ own. inl (c.fixed p (omega arith) own)) (λ found. inr found) (listed p (omega arith))

-- the root of a point's tree is its class number
pub root_class : (old new m : List ℕ) (from to : ℕ) → Climbs old new from to → get_or new to 0 ≡ to → IsForest old m → class_at m from ≡ to
root_class old new m from to c root f =
    let s = c.size in
    let i = c.inside in
    sym (c.same m f) ∙ (c.forest m f).root to (omega arith) root

-- ---- classes as labels

-- the classes of rows are a partition that labels give back
pub labels_back : (rows : List Row) (n : ℕ) → n < 2 ^ 16 → All (IsRowBelow n) rows → (m : List ℕ) → m ≡ joined_classes rows n → classes_by (judged_in m) (length m) (class_at m) ≡ m
labels_back rows n few below m is =
    let own = joined_by-own (joins_of rows) n (joins_below n rows below) in
    rw is (sym (classing-IsPartition (joined_classes rows n) (all-classing (joined_classes rows n) own.0 (let s = own.1 in omega arith))))

pub labels_below : (rows : List Row) (n : ℕ) → All (IsRowBelow n) rows → (m : List ℕ) → m ≡ joined_classes rows n → All (IsLabel (length m)) m
labels_below rows n below m is =
    let own = joined_by-own (joins_of rows) n (joins_below n rows below) in
    rw is (λ i d short.
    let e = get_or_default (joined_classes rows n) i d no_class short in
    inl (let l = own.0.least i short in omega arith))

-- classes are points, or none
pub classes_small : (rows : List Row) (n : ℕ) → n < 2 ^ 16 → All (IsRowBelow n) rows → (p : ℕ) → class_at (joined_classes rows n) p ≤ 65535
classes_small rows n few below p =
    let own = joined_by-own (joins_of rows) n (joins_below n rows below) in
    (all-classing (joined_classes rows n) own.0 (let s = own.1 in omega arith)).none p
