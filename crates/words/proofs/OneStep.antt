-- The end of the product's own check.
use Rattle.std.proofs.Common.{drop_of_length-le, ◌≡◌, ℕ, ◌≤◌, List, ◌++◌, length, drop, map, Option, Some, None, option_map, refl, Bor}
use Rattle.std.proofs.lemmas.List.{append-nil}
use Rattle.words.specs.Items.{Text, Item, read}
use Rattle.words.specs.Steps.{opt_now}

pub no_more : {X : Type 0} (f : X → Text) (n : ℕ) (xs : List X) (done : List Item) (waiting : Option (Bor Text)) → length xs ≤ n → waiting ≡ None
    → option_map (λ xs. done ++ xs) (read (opt_now waiting) (map f (drop n xs))) ≡ Some done
unfolding read
no_more f n xs done waiting h none = rw (drop_of_length-le xs h, none, append-nil done) refl

pub waits : {X : Type 0} (f : X → Text) (n : ℕ) (xs : List X) (done : List Item) (waiting : Option (Bor Text)) (name : Bor Text) → length xs ≤ n → waiting ≡ Some name
    → option_map (λ xs. done ++ xs) (read (opt_now waiting) (map f (drop n xs))) ≡ None
unfolding read
waits f n xs done waiting name h some = rw (drop_of_length-le xs h, some) refl
