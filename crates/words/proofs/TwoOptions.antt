-- Two options, by their names.
use Rattle.std.proofs.Common.{◌≡◌, ◌↔◌, inl, inr, ℕ, ◌<◌, ◌≤◌, Bool, true, false, IsTrue, List, [], ◌∷◌, length, map, get_or, refl, sym, ◌∙◌, ap, subst, arith}
use Rattle.words.specs.Items.{Text}
use Rattle.words.specs.Forms.{HasOne, HasBoth, setting_of}
use Rattle.words.specs.declared.parts.Setting.{Setting}

two-of : {X Y : Type 0} (f : X → Y) (items : List X) (d e : X) → 2 ≤ length items → length items < 3 → map f items ≡ f (get_or items 0 d) ∷ f (get_or items 1 e) ∷ []
two-of f [] d e some few = absurd (omega arith)
two-of f (v ∷ []) d e some few = absurd (omega arith)
two-of f (v ∷ w ∷ []) d e some few = refl
two-of f (v ∷ w ∷ more ∷ rest) d e some few = absurd (omega arith)

module _ (options : List (Text × Text)) (a b : Text × Text) (two : options ≡ a ∷ b ∷ []) (first second : Text) where
  in_order : (a.0 ≡ first) × (b.0 ≡ second) → IsTrue true ↔ HasBoth first second options
  in_order (at_a, at_b) = (λ is. (a.1, b.1, inl (two ∙ rw (← at_a, ← at_b) refl)), λ has. refl)

  has_reversed : (a.0 ≡ second) × (b.0 ≡ first) → HasBoth first second options
  has_reversed (at_a, at_b) = (b.1, a.1, inr (two ∙ rw (← at_a, ← at_b) refl))

  names : (c d : Text × Text) → a ∷ b ∷ [] ≡ c ∷ d ∷ [] → (a.0 ≡ c.0) × (b.0 ≡ d.0)
  names c d same =
      let one : a ≡ c = cc in
      let other : b ≡ d = cc in
      (ap (λ (x : Text × Text). x.0) one, ap (λ (x : Text × Text). x.0) other)

  in_either : (t : Bool) → (((a.0 ≡ first) × (b.0 ≡ second)) → ⊥) → IsTrue t ↔ ((a.0 ≡ second) × (b.0 ≡ first)) → IsTrue t ↔ HasBoth first second options
  in_either t other same = (λ is. has_reversed (same.0 is), back)
    where
      back : HasBoth first second options → IsTrue t
      back (v, w, inl e) = absurd (other (names (first, v) (second, w) (sym two ∙ e)))
      back (v, w, inr e) = same.1 (names (second, w) (first, v) (sym two ∙ e))

-- ---- two settings

module _ (settings : List Setting) (d e : Setting) (some : 2 ≤ length settings) (few : length settings < 3) (first second : Text) where
  pub named_in_order : ((get_or settings 0 d).name.now ≡ first) × ((get_or settings 1 e).name.now ≡ second) → IsTrue true ↔ HasBoth first second (map setting_of settings)
  named_in_order names = in_order (map setting_of settings) (setting_of (get_or settings 0 d)) (setting_of (get_or settings 1 e)) (two-of setting_of settings d e some few) first second names

  pub named_in_either : (t u : Bool) → t ≡ false → IsTrue t ↔ (((get_or settings 0 d).name.now ≡ first) × ((get_or settings 1 e).name.now ≡ second))
      → IsTrue u ↔ (((get_or settings 0 d).name.now ≡ second) × ((get_or settings 1 e).name.now ≡ first)) → IsTrue u ↔ HasBoth first second (map setting_of settings)
  named_in_either t u not_one one other =
      in_either (map setting_of settings) (setting_of (get_or settings 0 d)) (setting_of (get_or settings 1 e)) (two-of setting_of settings d e some few) first second u
      (λ names. let yes : t ≡ true = one.1 names in cc) other

-- ---- one setting

one_of : (settings : List Setting) (d : Setting) → 1 ≤ length settings → length settings < 2 → map setting_of settings ≡ setting_of (get_or settings 0 d) ∷ []
one_of [] d some few = absurd (omega arith)
one_of (v ∷ []) d some few = refl
one_of (v ∷ more ∷ rest) d some few = absurd (omega arith)

pub named_alone : (settings : List Setting) (d : Setting) → 1 ≤ length settings → length settings < 2 → (name : Text) (t : Bool) → IsTrue t ↔ ((get_or settings 0 d).name.now ≡ name) → IsTrue t ↔ HasOne name (map setting_of settings)
named_alone settings d some few name t same = (λ named. has named, back)
  where
    one : map setting_of settings ≡ setting_of (get_or settings 0 d) ∷ []
    one = one_of settings d some few

    has : IsTrue t → HasOne name (map setting_of settings)
    has named = let is = same.0 named in ((get_or settings 0 d).value.now, one ∙ rw (← is) refl)

    back : HasOne name (map setting_of settings) → IsTrue t
    back (value, e) =
        let both : setting_of (get_or settings 0 d) ∷ [] ≡ (name, value) ∷ [] = sym one ∙ e in
        let alone : setting_of (get_or settings 0 d) ≡ (name, value) = cc in
        same.1 (ap (λ (x : Text × Text). x.0) alone)
