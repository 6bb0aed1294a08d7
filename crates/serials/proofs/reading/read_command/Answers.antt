use Rattle.std.proofs.Common.{ℕ, List, ◌∷◌, [], sym, ap, ◌∙◌}
use Rattle.serials.proofs.CommandLemmas.{of_words, no_name, two_words, three_words, five_words}
use Rattle.serials.proofs.reading.read_command.Goals as goal

pub returns-in_err-word : goal.returns-in_err-word
returns-in_err-word c =
    let words = sym c.new-words.ensures ∙ c.in_err-word.ensures.steps.0 in
    c.from_residual.ensures ∙ of_words c.args.line.now [] words

pub returns-in_err-next : goal.returns-in_err-next
returns-in_err-next c =
    let w = c.in_ok-word.word.now in
    let words = sym c.new-words.ensures ∙ (c.in_ok-word.ensures.steps ∙ ap (λ (s : List (List ℕ)). w ∷ s) c.in_err-next.ensures.steps.0) in
    c.from_residual-in_err-next.ensures ∙ of_words c.args.line.now (w ∷ []) words

pub returns-in_err-id : goal.returns-in_err-id
returns-in_err-id c =
    let w = c.in_ok-word.word.now in
    let words = sym c.new-words.ensures ∙ (c.in_ok-word.ensures.steps ∙ ap (λ (s : List (List ℕ)). w ∷ s) c.in_ok-next.ensures.steps) in
    c.from_residual-in_err-id.ensures ∙ no_name c.args.line.now w c.in_ok-next.field-0.now c.next-2.new.self words c.in_err-id.ensures

pub returns-in_default : goal.returns-in_default
returns-in_default c =
    let w = c.in_ok-word.word.now in
    let x = c.in_ok-next.field-0.now in
    let words = sym c.new-words.ensures ∙ (c.in_ok-word.ensures.steps ∙ ap (λ (s : List (List ℕ)). w ∷ s) (c.in_ok-next.ensures.steps ∙ ap (λ (s : List (List ℕ)). x ∷ s) c.in_default.ensures.steps.0)) in
    c.read_alone.ensures ∙ two_words c.args.line.now w x c.in_ok-id.id words c.in_ok-id.ensures

pub returns-in_default-next : goal.returns-in_default-next
returns-in_default-next c =
    let w = c.in_ok-word.word.now in
    let x = c.in_ok-next.field-0.now in
    let y = c.in-Some.serial.now in
    let words =
    sym c.new-words.ensures
    ∙ (c.in_ok-word.ensures.steps ∙ ap (λ (s : List (List ℕ)). w ∷ s) (c.in_ok-next.ensures.steps ∙ ap (λ (s : List (List ℕ)). x ∷ s) (c.in-Some.ensures.steps ∙ ap (λ (s : List (List ℕ)). y ∷ s) c.in_default-next.ensures.steps.0))) in
    c.read_with.ensures ∙ three_words c.args.line.now w x y c.in_ok-id.id words c.in_ok-id.ensures

pub returns-in_err-fixture : goal.returns-in_err-fixture
returns-in_err-fixture c =
    let w = c.in_ok-word.word.now in
    let x = c.in_ok-next.field-0.now in
    let y = c.in-Some.serial.now in
    let z = c.in-Some-next.operator.now in
    let last = c.in-Some-next.ensures.steps ∙ ap (λ (s : List (List ℕ)). z ∷ s) c.in_err-fixture.ensures.steps.0 in
    let words =
    sym c.new-words.ensures
    ∙ (c.in_ok-word.ensures.steps ∙ ap (λ (s : List (List ℕ)). w ∷ s) (c.in_ok-next.ensures.steps ∙ ap (λ (s : List (List ℕ)). x ∷ s) (c.in-Some.ensures.steps ∙ ap (λ (s : List (List ℕ)). y ∷ s) last))) in
    c.from_residual-in_err-fixture.ensures ∙ of_words c.args.line.now (w ∷ x ∷ y ∷ z ∷ []) words

pub returns-in-None : goal.returns-in-None
returns-in-None c =
    let w = c.in_ok-word.word.now in
    let x = c.in_ok-next.field-0.now in
    let y = c.in-Some.serial.now in
    let z = c.in-Some-next.operator.now in
    let f = c.in_ok-fixture.fixture.now in
    let last = c.in-Some-next.ensures.steps ∙ ap (λ (s : List (List ℕ)). z ∷ s) (c.in_ok-fixture.ensures.steps ∙ ap (λ (s : List (List ℕ)). f ∷ s) c.in-None.ensures.steps.0) in
    let words =
    sym c.new-words.ensures
    ∙ (c.in_ok-word.ensures.steps ∙ ap (λ (s : List (List ℕ)). w ∷ s) (c.in_ok-next.ensures.steps ∙ ap (λ (s : List (List ℕ)). x ∷ s) (c.in-Some.ensures.steps ∙ ap (λ (s : List (List ℕ)). y ∷ s) last))) in
    c.read_staffed.ensures ∙ five_words c.args.line.now w x y z f c.in_ok-id.id words c.in_ok-id.ensures

pub returns-in-Some-next-2 : goal.returns-in-Some-next-2
returns-in-Some-next-2 c =
    let w = c.in_ok-word.word.now in
    let x = c.in_ok-next.field-0.now in
    let y = c.in-Some.serial.now in
    let z = c.in-Some-next.operator.now in
    let f = c.in_ok-fixture.fixture.now in
    let last = c.in-Some-next.ensures.steps ∙ ap (λ (s : List (List ℕ)). z ∷ s) (c.in_ok-fixture.ensures.steps ∙ ap (λ (s : List (List ℕ)). f ∷ s) c.in-Some-next-2.ensures.steps) in
    let words =
    sym c.new-words.ensures
    ∙ (c.in_ok-word.ensures.steps ∙ ap (λ (s : List (List ℕ)). w ∷ s) (c.in_ok-next.ensures.steps ∙ ap (λ (s : List (List ℕ)). x ∷ s) (c.in-Some.ensures.steps ∙ ap (λ (s : List (List ℕ)). y ∷ s) last))) in
    of_words c.args.line.now (w ∷ x ∷ y ∷ z ∷ f ∷ c.in-Some-next-2.field-0.now ∷ c.next-6.new.self) words
