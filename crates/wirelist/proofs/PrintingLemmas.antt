-- Lines of rows, printed one after another.
use Rattle.std.proofs.Common.{◌≡◌, ℕ, ◌+◌, ◌<◌, List, [], ◌∷◌, ◌++◌, length, map, take, get_or, codes, refl, ap, sym, ◌∙◌, append_assoc, arith}
use Rattle.std.specs.List.{flat_map, join_with_byte, zip}
use Rattle.std.specs.Fmt.{decimal}
use Rattle.std.proofs.lemmas.List.{take_more, append-nil, map-append}
use Rattle.std.proofs.lemmas.Grind.{flat_map-append}
use Rattle.std.proofs.lemmas.Slice.Zip.{get_or-zip}
use Rattle.wirelist.specs.Canonical.{line_of, net_row, ignore_row, ignore_rows}

-- a row of two fields or more is its first field and the others, each after a comma
pub join_all : (x : List ℕ) (ys : List (List ℕ)) → join_with_byte 44 (x ∷ ys) ≡ x ++ flat_map (λ y. 44 ∷ y) ys
join_all x [] = sym (append-nil x)
join_all x (y ∷ ys) = ap (λ rest. x ++ (44 ∷ rest)) (join_all y ys)

-- the fields of the points, each after a comma
pub fields_all : (ps : List ℕ) → flat_map (λ y. 44 ∷ y) (map decimal ps) ≡ flat_map (λ p. 44 ∷ decimal p) ps
fields_all [] = refl
fields_all (p ∷ ps) = ap (λ rest. (44 ∷ decimal p) ++ rest) (fields_all ps)

-- a net's line, printed field by field
pub net_line : (text name ps : List ℕ)
    → (((text ++ codes "net,") ++ name) ++ flat_map (λ p. 44 ∷ decimal p) ps) ++ (10 ∷ []) ≡ text ++ line_of (net_row (name, ps))
net_line text name ps =
    append_assoc ((text ++ codes "net,") ++ name) (flat_map (λ p. 44 ∷ decimal p) ps) (10 ∷ [])
    ∙ append_assoc (text ++ codes "net,") name (flat_map (λ p. 44 ∷ decimal p) ps ++ (10 ∷ []))
    ∙ append_assoc text (codes "net,") (name ++ (flat_map (λ p. 44 ∷ decimal p) ps ++ (10 ∷ [])))
    ∙ ap (λ rest. text ++ (codes "net," ++ rest)) (
    sym (append_assoc name (flat_map (λ p. 44 ∷ decimal p) ps) (10 ∷ []))
    ∙ ap (λ rest. rest ++ (10 ∷ [])) (ap (λ rest. name ++ rest) (sym (fields_all ps)) ∙ sym (join_all name (map decimal ps)))
    )

-- the line of the points that are not judged, printed field by field
pub ignore_line : (text ps : List ℕ) → ((text ++ codes "ignore") ++ flat_map (λ p. 44 ∷ decimal p) ps) ++ (10 ∷ []) ≡ text ++ line_of (ignore_row ps)
ignore_line text ps =
    append_assoc (text ++ codes "ignore") (flat_map (λ p. 44 ∷ decimal p) ps) (10 ∷ [])
    ∙ append_assoc text (codes "ignore") (flat_map (λ p. 44 ∷ decimal p) ps ++ (10 ∷ []))
    ∙ ap (λ rest. text ++ rest) (
    sym (append_assoc (codes "ignore") (flat_map (λ p. 44 ∷ decimal p) ps) (10 ∷ []))
    ∙ ap (λ rest. rest ++ (10 ∷ [])) (ap (λ rest. codes "ignore" ++ rest) (sym (fields_all ps)) ∙ sym (join_all (codes "ignore") (map decimal ps)))
    )

-- points that are there have a row
pub ignore_row_is : (ps : List ℕ) → 0 < length ps → flat_map line_of (ignore_rows ps) ≡ line_of (ignore_row ps)
ignore_row_is [] some = absurd (omega arith)
ignore_row_is (p ∷ ps) some = append-nil (line_of (ignore_row (p ∷ ps)))

-- one line more
pub lines_more : {A B : Type 0} (line : B → List ℕ) (row : A → B) (xs : List A) (i : ℕ) (x : A) → i < length xs → get_or xs i x ≡ x
    → flat_map line (map row (take (i + 1) xs)) ≡ flat_map line (map row (take i xs)) ++ line (row x)
lines_more line row xs i x h e =
    ap (λ part. flat_map line (map row part)) (take_more xs i x h ∙ ap (λ y. take i xs ++ y ∷ []) e)
    ∙ ap (flat_map line) (map-append row (take i xs) (x ∷ []))
    ∙ flat_map-append line (map row (take i xs)) (row x ∷ [])
    ∙ ap (λ rest. flat_map line (map row (take i xs)) ++ rest) (append-nil (line (row x)))

-- an element of two lists side by side
pub pair_at : {A B : Type 0} (xs : List A) (ys : List B) (i : ℕ) (x : A) (y : B) → i < length xs → i < length ys
    → get_or xs i x ≡ x → get_or ys i y ≡ y → get_or (zip xs ys) i (x, y) ≡ (x, y)
pair_at xs ys i x y h k e f = get_or-zip xs ys i (x, y) h k ∙ ap (λ a. (a, get_or ys i y)) e ∙ ap (λ b. (x, b)) f

-- lists of lines in their order
pub lines_in_order : {R : Type 0} (line : R → List ℕ) (first second last : R) (a b c d e f : List R)
    → (((((((line first ++ line second) ++ flat_map line a) ++ flat_map line b) ++ flat_map line c) ++ flat_map line d) ++ flat_map line e) ++ flat_map line f) ++ line last
    ≡ flat_map line (first ∷ second ∷ (a ++ (b ++ (c ++ (d ++ (e ++ (f ++ (last ∷ []))))))))
lines_in_order line first second last a b c d e f = simp (append_assoc, flat_map-append, append-nil)

-- one point more, after a comma
pub points_more : (text so_far out field ps : List ℕ) (i p : ℕ) → i < length ps → get_or ps i p ≡ p
    → so_far ≡ text ++ flat_map (λ x. 44 ∷ decimal x) (take i ps) → out ≡ so_far ++ field → field ≡ 44 ∷ decimal p
    → out ≡ text ++ flat_map (λ x. 44 ∷ decimal x) (take (i + 1) ps)
points_more text so_far out field ps i p inside at is next spelled =
    let print : ℕ → List ℕ = λ x. 44 ∷ decimal x in
    next ∙ ap (λ l. so_far ++ l) spelled ∙ ap (λ l. l ++ print p) is ∙ append_assoc text (flat_map print (take i ps)) (print p)
    ∙ ap (λ l. text ++ l) (sym (
    ap (λ part. flat_map print part) (take_more ps i p inside ∙ ap (λ y. take i ps ++ y ∷ []) at)
    ∙ flat_map-append print (take i ps) (p ∷ [])
    ∙ ap (λ rest. flat_map print (take i ps) ++ rest) (append-nil (print p))))
