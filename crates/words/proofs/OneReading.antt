-- Words are one command at most.
use Rattle.std.proofs.Common.{◌≡◌, inl, inr, ℕ, List, [], ◌∷◌, Some, refl, sym, ◌∙◌, ap, subst, arith, codes}
use Rattle.std.specs.Prelude.{decimal}
use Rattle.std.proofs.lemmas.Fmt.{decimal_injective}
use Rattle.words.specs.Items.{Text, Item, plains, options}
use Rattle.words.specs.Words.{Asks, InAnyOrder, IsUnitName, IsService, IsSize, word_of, options_of, unit_options, service_options}
use Rattle.words.specs.declared.command.UnitName.{UnitName}
use Rattle.words.specs.declared.command.Command.{Command}
use Rattle.words.specs.declared.command.Command.TheVariants.{Continuity, Learn, Run, Import, Serve, Report, Unit, Export, Soak}
use Rattle.words.specs.declared.command.Service.{Service}
use Rattle.words.proofs.Places.{command_place}

abbrev named : List ℕ → ℕ → UnitName
named serial attempt = record { serial = serial; attempt = attempt }

same_unit : (u v : UnitName) → IsUnitName u → IsUnitName v → u.serial ≡ v.serial → decimal u.attempt ≡ decimal v.attempt → u ≡ v
same_unit u v one other serial spelled =
    let attempt : u.attempt ≡ v.attempt = decimal_injective u.attempt v.attempt (let n = one.not_above in omega arith) (let n = other.not_above in omega arith) spelled in
    ap (λ (s : List ℕ). named s u.attempt) serial ∙ ap (λ (a : ℕ). named v.serial a) attempt

first_value : (a b c d : Text × Text) → a ∷ b ∷ [] ≡ c ∷ d ∷ [] → (a.0 ≡ c.0) × (a.1 ≡ c.1) × (b.0 ≡ d.0) × (b.1 ≡ d.1)
first_value a b c d same =
    let one : a ≡ c = cc in
    let other : b ≡ d = cc in
    (ap (λ (x : Text × Text). x.0) one, ap (λ (x : Text × Text). x.1) one, ap (λ (x : Text × Text). x.0) other, ap (λ (x : Text × Text). x.1) other)

one_unit : (O : List (Text × Text)) (u v : UnitName) → IsUnitName u → IsUnitName v → InAnyOrder O (unit_options u) → InAnyOrder O (unit_options v) → u ≡ v
one_unit O u v one other (inl e) (inl f) = let same = first_value _ _ _ _ (sym e ∙ f) in same_unit u v one other same.1 same.3
one_unit O u v one other (inr e) (inr f) = let same = first_value _ _ _ _ (sym e ∙ f) in same_unit u v one other same.3 same.1
one_unit O u v one other (inl e) (inr f) = let names : codes "serial" ≡ codes "attempt" = (first_value _ _ _ _ (sym e ∙ f)).0 in cc
one_unit O u v one other (inr e) (inl f) = let names : codes "attempt" ≡ codes "serial" = (first_value _ _ _ _ (sym e ∙ f)).0 in cc

-- a service, of its port and its count
abbrev serving : ℕ → ℕ → Service
serving port count = record { port = port; count = count }

same_service : (s t : Service) → IsService s → IsService t → decimal s.port ≡ decimal t.port → decimal s.count ≡ decimal t.count → s ≡ t
same_service s t one other ports counts =
    let port : s.port ≡ t.port = decimal_injective s.port t.port (let n = one.port_not_above in omega arith) (let n = other.port_not_above in omega arith) ports in
    let count : s.count ≡ t.count = decimal_injective s.count t.count (let n = one.count_not_above in omega arith) (let n = other.count_not_above in omega arith) counts in
    ap (λ (p : ℕ). serving p s.count) port ∙ ap (λ (c : ℕ). serving t.port c) count

one_service : (O : List (Text × Text)) (s t : Service) → IsService s → IsService t → InAnyOrder O (service_options s) → InAnyOrder O (service_options t) → s ≡ t
one_service O s t one other (inl e) (inl f) = let same = first_value _ _ _ _ (sym e ∙ f) in same_service s t one other same.1 same.3
one_service O s t one other (inr e) (inr f) = let same = first_value _ _ _ _ (sym e ∙ f) in same_service s t one other same.3 same.1
one_service O s t one other (inl e) (inr f) = let names : codes "port" ≡ codes "count" = (first_value _ _ _ _ (sym e ∙ f)).0 in cc
one_service O s t one other (inr e) (inl f) = let names : codes "count" ≡ codes "port" = (first_value _ _ _ _ (sym e ∙ f)).0 in cc

own_value : (a b : Text × Text) → a ∷ [] ≡ b ∷ [] → a.1 ≡ b.1
own_value a b same = let one : a ≡ b = cc in ap (λ (x : Text × Text). x.1) one

same_size : (m n : ℕ) → IsSize m → IsSize n → decimal m ≡ decimal n → m ≡ n
same_size m n one other spelled = decimal_injective m n (let l = one.not_above in omega arith) (let l = other.not_above in omega arith) spelled

-- one option has one value
one_value : (name v w : Text) (O : List (Text × Text)) → InAnyOrder O ((name, v) ∷ []) → InAnyOrder O ((name, w) ∷ []) → v ≡ w
one_value name v w O (inl e) (inl f) = own_value _ _ (sym e ∙ f)
one_value name v w O (inl e) (inr f) = own_value _ _ (sym e ∙ f)
one_value name v w O (inr e) (inl f) = own_value _ _ (sym e ∙ f)
one_value name v w O (inr e) (inr f) = own_value _ _ (sym e ∙ f)

module _ (words : List Text) where
  items_are : (c d : Command) (one : Asks words c) (other : Asks words d) → one.items ≡ other.items
  items_are c d one other = let a = one.falls in let b = other.falls in cc

  word_is : (c d : Command) → Asks words c → Asks words d → word_of c ≡ word_of d
  word_is c d one other =
      let same : word_of c ∷ [] ≡ word_of d ∷ [] = sym one.word ∙ ap plains (items_are c d one other) ∙ other.word in
      cc

  settings_are : (c d : Command) (one : Asks words c) (other : Asks words d) → InAnyOrder (options one.items) (options_of d)
  settings_are c d one other = subst (λ (ys : List Item). InAnyOrder (options ys) (options_of d)) (sym (items_are c d one other)) other.settings

  pub one_reading : (c d : Command) → Asks words c → Asks words d → c ≡ d
  one_reading (Continuity u) (Continuity v) one other = ap Continuity (one_unit _ u v one.in_range other.in_range one.settings (settings_are (Continuity u) (Continuity v) one other))
  one_reading (Learn u) (Learn v) one other = ap Learn (one_unit _ u v one.in_range other.in_range one.settings (settings_are (Learn u) (Learn v) one other))
  one_reading Run Run one other = refl
  one_reading Import Import one other = refl
  one_reading (Serve s) (Serve t) one other = ap Serve (one_service _ s t one.in_range other.in_range one.settings (settings_are (Serve s) (Serve t) one other))
  one_reading Report Report one other = refl
  one_reading (Unit s) (Unit t) one other = ap Unit (one_value _ s t _ one.settings (settings_are (Unit s) (Unit t) one other))
  one_reading Export Export one other = refl
  one_reading (Soak m) (Soak n) one other =
      ap Soak (same_size m n one.in_range other.in_range (one_value _ (decimal m) (decimal n) _ one.settings (settings_are (Soak m) (Soak n) one other)))
  one_reading (Soak m) d one other = let both = command_place (Soak m) d (word_is (Soak m) d one other) in cc
  one_reading (Continuity u) d one other = let both = command_place (Continuity u) d (word_is (Continuity u) d one other) in cc
  one_reading (Learn u) d one other = let both = command_place (Learn u) d (word_is (Learn u) d one other) in cc
  one_reading Run d one other = let both = command_place Run d (word_is Run d one other) in cc
  one_reading Import d one other = let both = command_place Import d (word_is Import d one other) in cc
  one_reading (Serve s) d one other = let both = command_place (Serve s) d (word_is (Serve s) d one other) in cc
  one_reading Report d one other = let both = command_place Report d (word_is Report d one other) in cc
  one_reading (Unit s) d one other = let both = command_place (Unit s) d (word_is (Unit s) d one other) in cc
  one_reading Export d one other = let both = command_place Export d (word_is Export d one other) in cc
