-- Which route a path finds, among routes with no parameter and one that ends in one.
use Rattle.std.proofs.Common.{◌≡◌, ◌∙◌, sym, refl, ap, arith, ℕ, zero, suc, ◌-◌, ◌<◌, ◌≤◌, Bool, true, false, cond, ◌&&◌, ◌||◌, ◌==◌, nat_lt, nat_eq, List, [], ◌∷◌, ◌++◌, length, drop, Option, Some, None}
use Rattle.std.proofs.lemmas.Bool.Decides.{nat_tests}
use Rattle.std.proofs.lemmas.List.{append-nil}
use Rattle.std.specs.List.{list_any, starts_with}
use Rattle.std.specs.Str.{bytes_eq}
use Rattle.matchit.specs.Rows.{RowsOf, param_token, catch_all_token}
use Rattle.matchit.specs.Seek.{own, step, or_else, seek, param_step, has_slash}
use Rattle.http_exchange.specs.Routes.{is_serial}

-- texts and rows of bytes alone
abbrev pub IsBytes : List ℕ → Type 0
IsBytes [] = Unit {0}
IsBytes (b ∷ t) = (b < 256) × IsBytes t

abbrev pub ArePlain : {K : Type 0} → RowsOf K → Type 0
ArePlain [] = Unit {0}
ArePlain ((t, k) ∷ rs) = IsBytes t × ArePlain rs

-- the key of the first row with this text
abbrev pub lookup : {K : Type 0} → List ℕ → RowsOf K → Option K
lookup path [] = None
lookup path ((t, k) ∷ rs) = cond (bytes_eq path t) (Some k) (lookup path rs)

-- the key of a row that ends in a parameter, if the path goes on as that row does
abbrev pub at_param : {K : Type 0} → List ℕ → K → List ℕ → Option K
at_param [] k path = cond (is_serial path) (Some k) None
at_param (x ∷ w) k [] = None
at_param (x ∷ w) k (b ∷ p) = cond (x == b) (at_param w k p) None

step-plain : {K : Type 0} (b : ℕ) (rs : RowsOf K) → ArePlain rs → ArePlain (step b rs)
step-plain b [] h = tt
step-plain b (([], k) ∷ rs) h = step-plain b rs h.1
step-plain {K} b ((x ∷ t, k) ∷ rs) h = by (x == b) (step-plain b rs h.1)
  where
    by : (v : Bool) → ArePlain {K = K} (step b rs) → ArePlain {K = K} (cond v ((t, k) ∷ step b rs) (step b rs))
    by true rest = (h.0.1, rest)
    by false rest = rest

step-wild : {K : Type 0} (wild : ℕ) (rs : RowsOf K) → 256 ≤ wild → ArePlain rs → step wild rs ≡ []
step-wild wild [] w h = refl
step-wild wild (([], k) ∷ rs) w h = step-wild wild rs w h.1
step-wild wild ((x ∷ t, k) ∷ rs) w h =
    let below : x < 256 = h.0.0 in
    let other : (x == wild) ≡ false = grind (arith, nat_tests) in
    rw other (step-wild wild rs w h.1)

step-append : {K : Type 0} (b : ℕ) (x y : RowsOf K) → step b (x ++ y) ≡ step b x ++ step b y
step-append b [] y = refl
step-append b (([], k) ∷ r) y = step-append b r y
step-append b ((a ∷ t, k) ∷ r) y =
    elim (a == b) as (λ v. cond v ((t, k) ∷ step b (r ++ y)) (step b (r ++ y)) ≡ cond v ((t, k) ∷ step b r) (step b r) ++ step b y) [
      | true ↦ ap (λ x. (t, k) ∷ x) (step-append b r y)
      | false ↦ step-append b r y
    ]

own-append : {K : Type 0} (x y : RowsOf K) → own (x ++ y) ≡ or_else (own x) (own y)
own-append [] y = refl
own-append (([], k) ∷ r) y = refl
own-append ((a ∷ t, k) ∷ r) y = own-append r y

or_else-none : {K : Type 0} (a : Option K) → or_else a None ≡ a
or_else-none None = refl
or_else-none (Some k) = refl

own-lookup : {K : Type 0} (rs : RowsOf K) → own rs ≡ lookup [] rs
own-lookup [] = refl
own-lookup (([], k) ∷ rs) = refl
own-lookup ((x ∷ t, k) ∷ rs) = own-lookup rs

lookup-step : {K : Type 0} (b : ℕ) (p : List ℕ) (rs : RowsOf K) → lookup (b ∷ p) rs ≡ lookup p (step b rs)
lookup-step b p [] = refl
lookup-step b p (([], k) ∷ rs) = lookup-step b p rs
lookup-step {K} b p ((x ∷ t, k) ∷ rs) = by (x == b) refl (lookup-step b p rs)
  where
    by : (v : Bool) → (x == b) ≡ v → lookup {K = K} (b ∷ p) rs ≡ lookup p (step b rs) → lookup {K = K} (b ∷ p) ((x ∷ t, k) ∷ rs) ≡ lookup p (cond v ((t, k) ∷ step b rs) (step b rs))
    by true e rest =
        let same : nat_eq b x ≡ true = grind (arith, nat_tests) in
        rw same (ap (λ o. cond (bytes_eq p t) (Some k) o) rest)
    by false e rest =
        let other : nat_eq b x ≡ false = grind (arith, nat_tests) in
        rw other rest

param_step-empty : {K : Type 0} (p : List ℕ) → (param_step {K = K} [] p).1 ≡ []
unfolding param_step
param_step-empty {K} p =
    elim (has_slash p) as (λ v. (cond {A = ℕ × RowsOf K} v (0, []) (length p, [])).1 ≡ []) [
      | true ↦ refl
      | false ↦ refl
    ]

seek-empty : {K : Type 0} (k : ℕ) (p : List ℕ) → seek {K = K} k [] p ≡ None
unfolding seek
seek-empty k [] = refl
seek-empty (suc k) (b ∷ p) = seek-empty k p
seek-empty {K} zero (b ∷ p) = simp (seek-empty {K = K} 0 p, param_step-empty {K = K} (b ∷ p), seek-empty {K = K} (((param_step {K = K} [] (b ∷ p)).0) - 1) p)

-- a byte at which no row has a parameter
seek-byte : {K : Type 0} (b : ℕ) (p : List ℕ) (rs : RowsOf K) → step param_token rs ≡ [] → step catch_all_token rs ≡ [] → seek 0 rs (b ∷ p) ≡ seek 0 (step b rs) p
unfolding seek
seek-byte {K} b p rs no_param no_catch = simp (no_param, no_catch, param_step-empty {K = K} (b ∷ p), seek-empty {K = K} ((param_step {K = K} [] (b ∷ p)).0 - 1) p, or_else-none)

seek-plain : {K : Type 0} (path : List ℕ) (rs : RowsOf K) → ArePlain rs → seek 0 rs path ≡ lookup path rs
unfolding seek
seek-plain [] rs h = own-lookup rs
seek-plain (b ∷ p) rs h =
    seek-byte b p rs (step-wild param_token rs (omega arith) h) (step-wild catch_all_token rs (omega arith) h)
    ∙ seek-plain p (step b rs) (step-plain b rs h) ∙ sym (lookup-step b p rs)

-- a parameter at the end takes what is left, if that is a serial
serial-no_slash : (path : List ℕ) → has_slash path ≡ list_any (λ b. b == 47) path
serial-no_slash [] = refl
serial-no_slash (b ∷ p) = by (b == 47) (serial-no_slash p)
  where
    by : (v : Bool) → has_slash p ≡ list_any (λ b. b == 47) p → cond v true (has_slash p) ≡ (v || list_any (λ b. b == 47) p)
    by true rest = refl
    by false rest = rest

seek-end : {K : Type 0} (k : K) (p : List ℕ) → seek (length p) (([], k) ∷ []) p ≡ Some k
unfolding seek
seek-end k [] = refl
seek-end k (b ∷ p) = seek-end k p

-- at the place of the parameter
seek-here : {K : Type 0} (ps : RowsOf K) (k : K) (path : List ℕ) → ArePlain ps → IsBytes path
    → seek 0 (ps ++ ((param_token ∷ [], k) ∷ [])) path ≡ or_else (lookup path ps) (at_param [] k path)
unfolding seek param_step
seek-here ps k [] h bytes = own-append ps _ ∙ ap (λ o. or_else o None) (own-lookup ps)
seek-here {K} ps k (b ∷ p) h bytes =
    let below : b < 256 = bytes.0 in
    let other : (256 == b) ≡ false = grind (arith, nat_tests) in
    let byte : step b (ps ++ ((param_token ∷ [], k) ∷ [])) ≡ step b ps = rw (step-append b ps, other) (append-nil (step b ps)) in
    let param : step param_token (ps ++ ((param_token ∷ [], k) ∷ [])) ≡ ([], k) ∷ [] = rw (step-append param_token ps, step-wild param_token ps (omega arith) h) refl in
    let catch_all : step catch_all_token (ps ++ ((param_token ∷ [], k) ∷ [])) ≡ [] = rw (step-append catch_all_token ps, step-wild catch_all_token ps (omega arith) h) refl in
    let plain = seek-plain p (step b ps) (step-plain b ps h) ∙ sym (lookup-step b p ps) in
    rw (byte, param, catch_all, plain) (ap (λ o. or_else (lookup (b ∷ p) ps) o) (by (has_slash (b ∷ p)) refl))
  where
    by : (v : Bool) → has_slash (b ∷ p) ≡ v
        → or_else (seek {K = K} ((cond {A = ℕ × RowsOf K} (has_slash (b ∷ p)) (0, []) (length (b ∷ p), ([], k) ∷ [])).0 - 1) (cond {A = ℕ × RowsOf K} (has_slash (b ∷ p)) (0, []) (length (b ∷ p), ([], k) ∷ [])).1 p) None ≡ cond (is_serial (b ∷ p)) (Some k) None
    by true e =
        let any = sym (serial-no_slash (b ∷ p)) ∙ e in
        let some : nat_lt 0 (length (b ∷ p)) ≡ true = grind (arith, nat_tests) in
        rw (any, e, some) (ap (λ o. or_else o None) (seek-empty {K = K} 0 p))
    by false e =
        let any = sym (serial-no_slash (b ∷ p)) ∙ e in
        let long : length (b ∷ p) - 1 ≡ length p = omega arith in
        let some : nat_lt 0 (length (b ∷ p)) ≡ true = grind (arith, nat_tests) in
        rw (any, e, long, some) (ap (λ o. or_else o None) (seek-end k p))

pub seek-param : {K : Type 0} (ps : RowsOf K) (w : List ℕ) (k : K) (path : List ℕ) → ArePlain ps → IsBytes w → IsBytes path
    → seek 0 (ps ++ ((w ++ (param_token ∷ []), k) ∷ [])) path ≡ or_else (lookup path ps) (at_param w k path)
unfolding seek
seek-param ps [] k path h text bytes = seek-here ps k path h bytes
seek-param ps (x ∷ w) k [] h text bytes = own-append ps _ ∙ ap (λ o. or_else o None) (own-lookup ps)
seek-param {K} ps (x ∷ w) k (b ∷ p) h text bytes =
    let below : x < 256 = text.0 in
    let no_param : (x == param_token) ≡ false = grind (arith, nat_tests) in
    let no_catch : (x == catch_all_token) ≡ false = grind (arith, nat_tests) in
    let param : step param_token (ps ++ ((x ∷ (w ++ (param_token ∷ [])), k) ∷ [])) ≡ [] = rw (step-append param_token ps, step-wild param_token ps (omega arith) h, no_param) refl in
    let catch_all : step catch_all_token (ps ++ ((x ∷ (w ++ (param_token ∷ [])), k) ∷ [])) ≡ [] = rw (step-append catch_all_token ps, step-wild catch_all_token ps (omega arith) h, no_catch) refl in
    let start = seek-byte b p (ps ++ ((x ∷ (w ++ (param_token ∷ [])), k) ∷ [])) param catch_all in
    let plain = seek-plain p (step b ps) (step-plain b ps h) ∙ sym (lookup-step b p ps) in
    start ∙ by (x == b) refl (seek-param (step b ps) w k p (step-plain b ps h) text.1 bytes.1) plain
  where
    by : (v : Bool) → (x == b) ≡ v
        → seek 0 (step b ps ++ ((w ++ (param_token ∷ []), k) ∷ [])) p ≡ or_else (lookup p (step b ps)) (at_param w k p)
        → seek 0 (step b ps) p ≡ lookup (b ∷ p) ps
        → seek 0 (step b (ps ++ ((x ∷ (w ++ (param_token ∷ [])), k) ∷ []))) p ≡ or_else (lookup (b ∷ p) ps) (cond (x == b) (at_param w k p) None)
    by true e here plain = rw (step-append b ps, e, here, ← lookup-step b p ps) refl
    by false e here plain = rw (step-append b ps, e, append-nil (step b ps), or_else-none) plain

-- a parameter's row, read as a front and what is left
pub at_param-starts : {K : Type 0} (w : List ℕ) (k : K) (path : List ℕ)
    → at_param w k path ≡ cond (starts_with nat_eq path w && is_serial (drop (length w) path)) (Some k) None
at_param-starts [] k path = refl
at_param-starts (x ∷ w) k [] = refl
at_param-starts {K} (x ∷ w) k (b ∷ p) = by (x == b) (at_param-starts w k p)
  where
    by : (v : Bool) → at_param w k p ≡ cond (starts_with nat_eq p w && is_serial (drop (length w) p)) (Some k) None
        → cond v (at_param w k p) None ≡ cond {A = Option K} ((v && starts_with nat_eq p w) && is_serial (drop (length w) p)) (Some k) None
    by true rest = rest
    by false rest = refl
