-- What is read at the front of bytes is what is spelled there.
--     IsReader Fits spelling read     what is read is spelled so, and what fits and is spelled is read again, whatever follows
use Rattle.std.proofs.Common.{◌≡◌, ℕ, zero, suc, ◌+◌, ◌^◌, ◌<◌, ◌≤◌, Bool, true, false, cond, ltb, List, [], ◌∷◌, ◌++◌, length, get_or, take, drop, Option, Some, None, All, refl, sym, ap, subst, ◌∙◌, append_assoc, arith, inl, inr}
use Rattle.std.specs.List.{flat_map}
use Rattle.std.specs.Int.{Width, w16, w32, w64, byte_len, from_be_bytes, to_be_bytes}
use Rattle.std.proofs.lemmas.Bool.{cases_lt, ltb-false, le-ltb}
use Rattle.std.proofs.lemmas.Option.{same_Some, cond_some}
use Rattle.std.proofs.lemmas.List.{take_at, drop_at, take-append-drop, length-append, length-take, get_or-drop, get_or-take, get_or_past}
use Rattle.std.proofs.lemmas.Nat.{be_bytes_2, be_bytes_4, be_bytes_8, from_be_bytes-to_be_bytes_2, from_be_bytes-to_be_bytes_4, from_be_bytes-to_be_bytes_8}
use Rattle.partition.specs.Names.{is_name, IsName}
use Rattle.records.specs.RecordBytes.{counted, name_bytes, two_bytes}
use Rattle.records.specs.Reading.{Reader, ◌>>=◌, both_at, made_at, chosen_at, byte_at, number_at, bytes_at, name_from, name_at, items_at, counted_at}

abbrev pub IsBytes : List ℕ → Type 0
IsBytes bytes = (i : ℕ) → get_or bytes i 0 < 256

pub IsBytes-drop : (n : ℕ) (bytes : List ℕ) → IsBytes bytes → IsBytes (drop n bytes)
IsBytes-drop n bytes h i = rw get_or-drop (h (n + i))

pub IsBytes-take : (n : ℕ) (bytes : List ℕ) → IsBytes bytes → IsBytes (take n bytes)
IsBytes-take n bytes h i =
    elim (cases_lt i n) [
      | inl lt ↦ rw (get_or-take n bytes i 0 lt) (h i)
      | inr le ↦ rw (get_or_past (take n bytes) i 0 (omega (arith, length-take n bytes))) (omega arith)
    ]

-- what follows the front has bytes too
pub IsBytes-rest : (bytes front rest : List ℕ) → IsBytes bytes → bytes ≡ front ++ rest → IsBytes rest
IsBytes-rest bytes front rest h e = subst IsBytes (ap (drop (length front)) e ∙ drop_at front rest (length front) refl) (IsBytes-drop (length front) bytes h)

-- the value of a step that read something
pub bind_some : {A B : Type 0} (o : Option A) (f : A → Option B) (y : B) → (o >>= f) ≡ Some y → (x : A) × (o ≡ Some x) × (f x ≡ Some y)
bind_some (Some x) f y e = (x, refl, e)
bind_some None f y e = absurd cc

-- a test that let the value through
pub guard_some : {A : Type 0} (b : Bool) (x y : A) → cond b None (Some x) ≡ Some y → (b ≡ false) × (x ≡ y)
guard_some true x y e = absurd cc
guard_some false x y e = (refl, cc)

-- what is read is spelled so, and what fits and is spelled is read again, whatever follows
pub record IsReader {X : Type 0} (Fits : X → Type 0) (spelling : X → List ℕ) (read : Reader X) : Type 0 where
  pub takes : (bytes : List ℕ) (x : X) (rest : List ℕ) → IsBytes bytes → read bytes ≡ Some (x, rest) → bytes ≡ spelling x ++ rest
  pub again : (x : X) (rest : List ℕ) → Fits x → read (spelling x ++ rest) ≡ Some (x, rest)

-- ---- one value after another

both_takes : {X Y : Type 0} (F : X → Type 0) (G : Y → Type 0) (s : X → List ℕ) (t : Y → List ℕ) (r : Reader X) (q : Reader Y) → IsReader F s r → IsReader G t q
    → (bytes : List ℕ) (x : X × Y) (rest : List ℕ) → IsBytes bytes → both_at r q bytes ≡ Some (x, rest) → bytes ≡ (s x.0 ++ t x.1) ++ rest
both_takes {X} {Y} F G s t r q a b bytes x rest fits e =
    let m = bind_some (r bytes) (λ u. q u.1 >>= λ v. Some ((u.0, v.0), v.1)) (x, rest) e in
    let n = bind_some (q m.0.1) (λ v. Some ((m.0.0, v.0), v.1)) (x, rest) m.2 in
    let first : bytes ≡ s m.0.0 ++ m.0.1 = a.takes bytes m.0.0 m.0.1 fits m.1 in
    let second : m.0.1 ≡ t n.0.0 ++ n.0.1 = b.takes m.0.1 n.0.0 n.0.1 (IsBytes-rest bytes (s m.0.0) m.0.1 fits first) n.1 in
    let made : (X × Y) × List ℕ = ((m.0.0, n.0.0), n.0.1) in
    let parts : bytes ≡ (s m.0.0 ++ t n.0.0) ++ n.0.1 = first ∙ ap (λ (z : List ℕ). s m.0.0 ++ z) second ∙ sym (append_assoc (s m.0.0) (t n.0.0) n.0.1) in
    subst (λ (z : (X × Y) × List ℕ). bytes ≡ (s z.0.0 ++ t z.0.1) ++ z.1) (same_Some made (x, rest) n.2) parts

both_again : {X Y : Type 0} (F : X → Type 0) (G : Y → Type 0) (s : X → List ℕ) (t : Y → List ℕ) (r : Reader X) (q : Reader Y) → IsReader F s r → IsReader G t q
    → (x : X × Y) (rest : List ℕ) → F x.0 × G x.1 → both_at r q ((s x.0 ++ t x.1) ++ rest) ≡ Some (x, rest)
both_again F G s t r q a b x rest fits =
    ap (both_at r q) (append_assoc (s x.0) (t x.1) rest) ∙ rw (a.again x.0 (t x.1 ++ rest) fits.0, b.again x.1 rest fits.1) refl

pub both_reader : {X Y : Type 0} {F : X → Type 0} {G : Y → Type 0} {s : X → List ℕ} {t : Y → List ℕ} {r : Reader X} {q : Reader Y} → IsReader F s r → IsReader G t q
    → IsReader {X = X × Y} (λ x. F x.0 × G x.1) (λ x. s x.0 ++ t x.1) (both_at r q)
both_reader {X} {Y} {F} {G} {s} {t} {r} {q} a b = record { takes = both_takes F G s t r q a b; again = both_again F G s t r q a b }

-- ---- a value as what it stands for

chosen_takes : {X Y : Type 0} (F : X → Type 0) (s : X → List ℕ) (r : Reader X) → IsReader F s r → (t : Y → List ℕ) (chosen : X → Option Y)
    → ((x : X) (y : Y) → chosen x ≡ Some y → s x ≡ t y)
    → (bytes : List ℕ) (y : Y) (rest : List ℕ) → IsBytes bytes → chosen_at chosen r bytes ≡ Some (y, rest) → bytes ≡ t y ++ rest
chosen_takes {X} {Y} F s r a t chosen spelled bytes y rest fits e =
    let m = bind_some (r bytes) (λ x. chosen x.0 >>= λ z. Some (z, x.1)) (y, rest) e in
    let n = bind_some (chosen m.0.0) (λ z. Some (z, m.0.1)) (y, rest) m.2 in
    let first : bytes ≡ s m.0.0 ++ m.0.1 = a.takes bytes m.0.0 m.0.1 fits m.1 in
    let made : Y × List ℕ = (n.0, m.0.1) in
    subst (λ (z : Y × List ℕ). bytes ≡ t z.0 ++ z.1) (same_Some made (y, rest) n.2) (first ∙ ap (λ (z : List ℕ). z ++ m.0.1) (spelled m.0.0 n.0 n.1))

chosen_again : {X Y : Type 0} (F : X → Type 0) (s : X → List ℕ) (r : Reader X) → IsReader F s r → (G : Y → Type 0) (t : Y → List ℕ) (chosen : X → Option Y)
    → ((y : Y) → G y → (x : X) × F x × (chosen x ≡ Some y) × (s x ≡ t y))
    → (y : Y) (rest : List ℕ) → G y → chosen_at chosen r (t y ++ rest) ≡ Some (y, rest)
chosen_again F s r a G t chosen back y rest fits =
    let x = back y fits in
    ap (λ (z : List ℕ). chosen_at chosen r (z ++ rest)) (sym x.3) ∙ rw (a.again x.0 rest x.1, x.2) refl

pub chosen_reader : {X Y : Type 0} {F : X → Type 0} {s : X → List ℕ} {r : Reader X} → IsReader F s r → (G : Y → Type 0) (t : Y → List ℕ) (chosen : X → Option Y)
    → ((x : X) (y : Y) → chosen x ≡ Some y → s x ≡ t y)
    → ((y : Y) → G y → (x : X) × F x × (chosen x ≡ Some y) × (s x ≡ t y))
    → IsReader G t (chosen_at chosen r)
chosen_reader {X} {Y} {F} {s} {r} a G t chosen spelled back = record { takes = chosen_takes F s r a t chosen spelled; again = chosen_again F s r a G t chosen back }

pub made_reader : {X Y : Type 0} {F : X → Type 0} {s : X → List ℕ} {r : Reader X} → IsReader F s r → (G : Y → Type 0) (t : Y → List ℕ) (made : X → Y)
    → ((x : X) → s x ≡ t (made x))
    → ((y : Y) → G y → (x : X) × F x × (made x ≡ y))
    → IsReader G t (made_at made r)
made_reader {X} {Y} {F} {s} {r} a G t made spelled back =
    chosen_reader a G t (λ x. Some (made x)) (λ x y e. spelled x ∙ ap t (same_Some (made x) y e)) (λ y fits. let x = back y fits in (x.0, x.1, ap (λ (z : Y). Some z) x.2, spelled x.0 ∙ ap t x.2))

-- ---- bytes and numbers

byte_takes : (bytes : List ℕ) (b : ℕ) (rest : List ℕ) → IsBytes bytes → byte_at bytes ≡ Some (b, rest) → bytes ≡ (b ∷ []) ++ rest
byte_takes [] b rest fits e = absurd cc
byte_takes (c ∷ bytes) b rest fits e = ap (λ (z : ℕ × List ℕ). z.0 ∷ z.1) (same_Some (c, bytes) (b, rest) e)

pub byte_reader : IsReader {X = ℕ} (λ b. Unit {0}) (λ b. b ∷ []) byte_at
byte_reader = record { takes = byte_takes; again = λ b rest fits. refl }

record IsWide (w : Width) (limit : ℕ) : Type 0 where
  len : (n : ℕ) → length (to_be_bytes w n) ≡ byte_len w
  back : (bytes : List ℕ) → length bytes ≡ byte_len w → IsBytes bytes → to_be_bytes w (from_be_bytes w bytes) ≡ bytes
  again : (n : ℕ) → n < limit → from_be_bytes w (to_be_bytes w n) ≡ n

wide16 : IsWide w16 (2 ^ 16)
wide16 = record { len = λ n. refl; back = λ bytes len fits. be_bytes_2 bytes _ len fits refl; again = λ n lt. from_be_bytes-to_be_bytes_2 n lt }

wide32 : IsWide w32 (2 ^ 32)
wide32 = record { len = λ n. refl; back = λ bytes len fits. be_bytes_4 bytes _ len fits refl; again = λ n lt. from_be_bytes-to_be_bytes_4 n lt }

wide64 : IsWide w64 (2 ^ 64)
wide64 = record { len = λ n. refl; back = λ bytes len fits. be_bytes_8 bytes _ len fits refl; again = λ n lt. from_be_bytes-to_be_bytes_8 n lt }

number_takes : (w : Width) (limit : ℕ) (wide : IsWide w limit) (bytes : List ℕ) (n : ℕ) (rest : List ℕ) → IsBytes bytes → number_at w bytes ≡ Some (n, rest) → bytes ≡ to_be_bytes w n ++ rest
unfolding number_at
number_takes w limit wide bytes n rest fits e =
    let g = guard_some (ltb (length bytes) (byte_len w)) (from_be_bytes w (take (byte_len w) bytes), drop (byte_len w) bytes) (n, rest) e in
    let long : byte_len w ≤ length bytes = ltb-false _ _ g.0 in
    let n-is : from_be_bytes w (take (byte_len w) bytes) ≡ n = ap (λ (p : ℕ × List ℕ). p.0) g.1 in
    let rest-is : drop (byte_len w) bytes ≡ rest = ap (λ (p : ℕ × List ℕ). p.1) g.1 in
    let front : to_be_bytes w n ≡ take (byte_len w) bytes = rw (← n-is) (wide.back (take (byte_len w) bytes) (omega (arith, length-take (byte_len w) bytes)) (IsBytes-take (byte_len w) bytes fits)) in
    rw (front, ← rest-is) (sym (take-append-drop (byte_len w) bytes))

number_again : (w : Width) (limit : ℕ) (wide : IsWide w limit) (n : ℕ) (rest : List ℕ) → n < limit → number_at w (to_be_bytes w n ++ rest) ≡ Some (n, rest)
unfolding number_at
number_again w limit wide n rest lt =
    let len = wide.len n in
    let long : ltb (length (to_be_bytes w n ++ rest)) (byte_len w) ≡ false = le-ltb _ _ (omega (arith, length-append (to_be_bytes w n) rest)) in
    rw (long, take_at (to_be_bytes w n) rest (byte_len w) len, drop_at (to_be_bytes w n) rest (byte_len w) len, wide.again n lt) refl

pub number16 : IsReader {X = ℕ} (λ n. n < 2 ^ 16) (to_be_bytes w16) (number_at w16)
number16 = record { takes = number_takes w16 (2 ^ 16) wide16; again = number_again w16 (2 ^ 16) wide16 }

pub number32 : IsReader {X = ℕ} (λ n. n < 2 ^ 32) (to_be_bytes w32) (number_at w32)
number32 = record { takes = number_takes w32 (2 ^ 32) wide32; again = number_again w32 (2 ^ 32) wide32 }

pub number64 : IsReader {X = ℕ} (λ n. n < 2 ^ 64) (to_be_bytes w64) (number_at w64)
number64 = record { takes = number_takes w64 (2 ^ 64) wide64; again = number_again w64 (2 ^ 64) wide64 }

-- ---- so many bytes, and names

pub bytes_take : (n : ℕ) (bytes front rest : List ℕ) → bytes_at n bytes ≡ Some (front, rest) → (bytes ≡ front ++ rest) × (length front ≡ n)
unfolding bytes_at
bytes_take n bytes front rest e =
    let g = guard_some (ltb (length bytes) n) (take n bytes, drop n bytes) (front, rest) e in
    let long : n ≤ length bytes = ltb-false _ _ g.0 in
    subst (λ (z : List ℕ × List ℕ). (bytes ≡ z.0 ++ z.1) × (length z.0 ≡ n)) g.1 (sym (take-append-drop n bytes), omega (arith, length-take n bytes))

pub bytes_again : (front rest : List ℕ) → bytes_at (length front) (front ++ rest) ≡ Some (front, rest)
unfolding bytes_at
bytes_again front rest =
    let long : ltb (length (front ++ rest)) (length front) ≡ false = le-ltb _ _ (omega (arith, length-append front rest)) in
    rw (long, take_at front rest (length front) refl, drop_at front rest (length front) refl) refl

name_taken : (bytes name rest : List ℕ) → IsBytes bytes → name_at bytes ≡ Some (name, rest) → (bytes ≡ name_bytes name ++ rest) × IsName name
unfolding name_at
name_taken bytes name rest fits e =
    let m = bind_some (byte_at bytes) (λ n. chosen_at name_from (bytes_at n.0) n.1) (name, rest) e in
    let n = bind_some (bytes_at m.0.0 m.0.1) (λ x. name_from x.0 >>= λ z. Some (z, x.1)) (name, rest) m.2 in
    let p = bind_some (name_from n.0.0) (λ z. Some (z, n.0.1)) (name, rest) n.2 in
    let g = cond_some (is_name n.0.0) n.0.0 p.0 p.1 in
    let first : bytes ≡ m.0.0 ∷ m.0.1 = byte_takes bytes m.0.0 m.0.1 fits m.1 in
    let second = bytes_take m.0.0 m.0.1 n.0.0 n.0.1 n.1 in
    let parts : bytes ≡ name_bytes n.0.0 ++ n.0.1 = first ∙ ap (λ (z : List ℕ). m.0.0 ∷ z) second.0 ∙ ap (λ (k : ℕ). k ∷ (n.0.0 ++ n.0.1)) (sym second.1) in
    let made : List ℕ × List ℕ = (p.0, n.0.1) in
    let named : (bytes ≡ name_bytes p.0 ++ n.0.1) × IsName p.0 = subst (λ (z : List ℕ). (bytes ≡ name_bytes z ++ n.0.1) × IsName z) g.1 (parts, g.0) in
    subst (λ (z : List ℕ × List ℕ). (bytes ≡ name_bytes z.0 ++ z.1) × IsName z.0) (same_Some made (name, rest) p.2) named

name_again : (name rest : List ℕ) → IsName name → name_at (name_bytes name ++ rest) ≡ Some (name, rest)
unfolding name_at
name_again name rest is = rw (bytes_again name rest, is) refl

pub name_reader : IsReader IsName name_bytes name_at
name_reader = record { takes = λ bytes name rest fits e. (name_taken bytes name rest fits e).0; again = name_again }

pub name_is : (bytes name rest : List ℕ) → IsBytes bytes → name_at bytes ≡ Some (name, rest) → IsName name
name_is bytes name rest fits e = (name_taken bytes name rest fits e).1

-- ---- counted items

items_take : {X : Type 0} (F : X → Type 0) (s : X → List ℕ) (r : Reader X) → IsReader F s r → (n : ℕ) (bytes : List ℕ) (x : List X × List ℕ) → IsBytes bytes → items_at r n bytes ≡ Some x
    → (bytes ≡ flat_map s x.0 ++ x.1) × (length x.0 ≡ n)
unfolding items_at
items_take {X} F s r a zero bytes x fits e =
    subst (λ (z : List X × List ℕ). (bytes ≡ flat_map s z.0 ++ z.1) × (length z.0 ≡ 0)) (same_Some ([], bytes) x e) (refl, refl)
items_take {X} F s r a (suc n) bytes x fits e =
    let m = bind_some (r bytes) (λ first. items_at r n first.1 >>= λ others. Some (first.0 ∷ others.0, others.1)) x e in
    let p = bind_some (items_at r n m.0.1) (λ others. Some (m.0.0 ∷ others.0, others.1)) x m.2 in
    let first : bytes ≡ s m.0.0 ++ m.0.1 = a.takes bytes m.0.0 m.0.1 fits m.1 in
    let second = items_take F s r a n m.0.1 p.0 (IsBytes-rest bytes (s m.0.0) m.0.1 fits first) p.1 in
    let made : List X × List ℕ = (m.0.0 ∷ p.0.0, p.0.1) in
    let parts : bytes ≡ flat_map s (m.0.0 ∷ p.0.0) ++ p.0.1 = first ∙ ap (λ (z : List ℕ). s m.0.0 ++ z) second.0 ∙ sym (append_assoc (s m.0.0) (flat_map s p.0.0) p.0.1) in
    subst (λ (z : List X × List ℕ). (bytes ≡ flat_map s z.0 ++ z.1) × (length z.0 ≡ suc n)) (same_Some made x p.2) (parts, ap suc second.1)

items_again : {X : Type 0} (F : X → Type 0) (s : X → List ℕ) (r : Reader X) → IsReader F s r → (xs : List X) (rest : List ℕ) → All F xs → items_at r (length xs) (flat_map s xs ++ rest) ≡ Some (xs, rest)
unfolding items_at
items_again F s r a [] rest fits = refl
items_again F s r a (x ∷ xs) rest fits =
    let regrouped : flat_map s (x ∷ xs) ++ rest ≡ s x ++ (flat_map s xs ++ rest) = append_assoc (s x) (flat_map s xs) rest in
    ap (items_at r (suc (length xs))) regrouped ∙ rw (a.again x (flat_map s xs ++ rest) (fits 0 x (omega arith)), items_again F s r a xs rest (λ k d lt. fits (suc k) d (omega arith))) refl

counted_takes : {X : Type 0} (F : X → Type 0) (s : X → List ℕ) (r : Reader X) → IsReader F s r → (bytes : List ℕ) (xs : List X) (rest : List ℕ) → IsBytes bytes → counted_at r bytes ≡ Some (xs, rest)
    → bytes ≡ counted s xs ++ rest
unfolding counted_at counted
counted_takes F s r a bytes xs rest fits e =
    let m = bind_some (number_at w16 bytes) (λ n. items_at r n.0 n.1) (xs, rest) e in
    let first : bytes ≡ two_bytes m.0.0 ++ m.0.1 = number16.takes bytes m.0.0 m.0.1 fits m.1 in
    let second = items_take F s r a m.0.0 m.0.1 (xs, rest) (IsBytes-rest bytes (two_bytes m.0.0) m.0.1 fits first) m.2 in
    first ∙ ap (λ (z : List ℕ). two_bytes m.0.0 ++ z) second.0 ∙ ap (λ (k : ℕ). two_bytes k ++ (flat_map s xs ++ rest)) (sym second.1) ∙ sym (append_assoc (two_bytes (length xs)) (flat_map s xs) rest)

-- a list in two bytes of count and its items
abbrev pub Countable : {X : Type 0} → (X → Type 0) → List X → Type 0
Countable F xs = (length xs < 2 ^ 16) × All F xs

counted_again : {X : Type 0} (F : X → Type 0) (s : X → List ℕ) (r : Reader X) → IsReader F s r → (xs : List X) (rest : List ℕ) → Countable F xs → counted_at r (counted s xs ++ rest) ≡ Some (xs, rest)
unfolding counted_at counted
counted_again F s r a xs rest fits =
    ap (counted_at r) (append_assoc (two_bytes (length xs)) (flat_map s xs) rest) ∙ rw (number16.again (length xs) (flat_map s xs ++ rest) fits.0, items_again F s r a xs rest fits.1) refl

pub counted_reader : {X : Type 0} {F : X → Type 0} {s : X → List ℕ} {r : Reader X} → IsReader F s r → IsReader (Countable F) (counted s) (counted_at r)
counted_reader {X} {F} {s} {r} a = record { takes = counted_takes F s r a; again = counted_again F s r a }

-- the two values of a pair that was read
pub both_reads : {X Y : Type 0} (r : Reader X) (q : Reader Y) (bytes : List ℕ) (x : X × Y) (rest : List ℕ) → both_at r q bytes ≡ Some (x, rest)
    → (after : List ℕ) × (r bytes ≡ Some (x.0, after)) × (q after ≡ Some (x.1, rest))
both_reads {X} {Y} r q bytes x rest e =
    let m = bind_some (r bytes) (λ u. q u.1 >>= λ v. Some ((u.0, v.0), v.1)) (x, rest) e in
    let n = bind_some (q m.0.1) (λ v. Some ((m.0.0, v.0), v.1)) (x, rest) m.2 in
    let made : (X × Y) × List ℕ = ((m.0.0, n.0.0), n.0.1) in
    let same : made ≡ (x, rest) = same_Some made (x, rest) n.2 in
    (m.0.1, m.1 ∙ ap (λ (z : (X × Y) × List ℕ). Some (z.0.0, m.0.1)) same, n.1 ∙ ap (λ (z : (X × Y) × List ℕ). Some (z.0.1, z.1)) same)
