-- What the writes of a journal make of a file, and what a crash makes of them.
use Rattle.std.proofs.Common.{◌≡◌, inl, inr, ⊎_elim, ℕ, ◌+◌, ◌<◌, List, [], ◌∷◌, ◌++◌, length, take, drop, get_or, refl, sym, ◌∙◌, ap, subst, arith, append_assoc, length-append, take-append-drop}
use Rattle.std.proofs.lemmas.Bool.{cases_eq}
use Rattle.std.proofs.lemmas.List.{take_at, drop_at, drop_more}
use Rattle.std.proofs.lemmas.List.Elements.{All-push}
use Rattle.disk_edge.specs.Disk.{IsTorn, overwritten}
use Rattle.journal.specs.Format.{sized, entry, Fits, AllFit, written, AtRest, IsBeforeOrAfter}
use Rattle.journal.proofs.Bytes.{written-push}

-- A file in two parts with one byte between them.
module _ (front : List ℕ) (gate : ℕ) (back : List ℕ) where
  abbrev file : List ℕ
  file = front ++ gate ∷ back

  front_and_gate : take (length front + 1) file ≡ front ++ gate ∷ []
  front_and_gate = ap (take (length front + 1)) (sym (append_assoc front (gate ∷ []) back)) ∙ take_at (front ++ gate ∷ []) back (length front + 1) (length-append front (gate ∷ []))

  pub behind_gate : drop (length front + 1) file ≡ back
  behind_gate = ap (drop (length front + 1)) (sym (append_assoc front (gate ∷ []) back)) ∙ drop_at (front ++ gate ∷ []) back (length front + 1) (length-append front (gate ∷ []))

  -- a write behind the gate that is cut short
  pub torn_behind : (n : ℕ) (image : List ℕ) → IsTorn (length front + 1) n file image → image ≡ front ++ gate ∷ drop (length front + 1) image
  torn_behind n image torn =
      sym (take-append-drop (length front + 1) image)
      ∙ ap (λ (l : List ℕ). l ++ drop (length front + 1) image) (torn.before ∙ front_and_gate)
      ∙ append_assoc front (gate ∷ []) (drop (length front + 1) image)

  pub overwritten_behind : (bytes : List ℕ) → overwritten file (length front + 1) bytes ≡ front ++ (gate ∷ bytes) ++ drop (length front + 1 + length bytes) file
  overwritten_behind bytes = ap (λ (l : List ℕ). l ++ drop (length front + 1 + length bytes) file) (ap (λ (l : List ℕ). l ++ bytes) front_and_gate ∙ append_assoc front (gate ∷ []) bytes)

  -- a write of the gate that is cut short
  pub torn_gate : (image : List ℕ) → IsTorn (length front) 1 file image → image ≡ front ++ get_or image (length front) 0 ∷ back
  torn_gate image torn =
      let long : length front < length image = omega (arith, torn.no_shorter, length-append front (gate ∷ back)) in
      sym (take-append-drop (length front) image)
      ∙ ap (λ (l : List ℕ). l ++ drop (length front) image) (torn.before ∙ take_at front (gate ∷ back) (length front) refl)
      ∙ ap (λ (l : List ℕ). front ++ l) (drop_more image (length front) 0 long ∙ ap (λ (l : List ℕ). get_or image (length front) 0 ∷ l) (torn.after ∙ behind_gate))

  pub overwritten_gate : (new : ℕ) → overwritten file (length front) (new ∷ []) ≡ front ++ new ∷ back
  overwritten_gate new =
      ap (λ (l : List ℕ). l ++ drop (length front + 1) file) (ap (λ (l : List ℕ). l ++ new ∷ []) (take_at front (gate ∷ back) (length front) refl))
      ∙ ap (λ (l : List ℕ). (front ++ new ∷ []) ++ l) behind_gate
      ∙ append_assoc front (new ∷ []) back

-- An entry behind a closed gate.
module _ (bodies : List (List ℕ)) (body : List ℕ) where
  -- the file with the entry, whatever its gate
  abbrev pub staged : ℕ → List ℕ → List ℕ
  staged gate rest = written bodies ++ gate ∷ (sized body ++ 0 ∷ rest)

  -- an open gate
  pub opened : (rest : List ℕ) → AllFit bodies → Fits body → AtRest (staged 1 rest) (bodies ++ body ∷ [])
  opened rest fit fits = record {
    rest = rest;
    bytes = sym (ap (λ (l : List ℕ). l ++ 0 ∷ rest) (written-push bodies body) ∙ append_assoc (written bodies) (entry body) (0 ∷ rest));
    fit = All-push Fits bodies body fit fits;
  }

  pub any_gate : (gate : ℕ) (rest : List ℕ) → AllFit bodies → Fits body → IsBeforeOrAfter bodies body (staged gate rest)
  any_gate gate rest fit fits = ⊎_elim
      (λ is_open. inr (inr (subst (λ (g : ℕ). AtRest (staged g rest) (bodies ++ body ∷ [])) (sym is_open) (opened rest fit fits))))
      (λ not_open. ⊎_elim
      (λ shut. inl (subst (λ (g : ℕ). AtRest (staged g rest) bodies) (sym shut) (record { rest = sized body ++ 0 ∷ rest; bytes = refl; fit = fit })))
      (λ not_shut. inr (inl (record { gate = gate; not_shut = not_shut; not_open = not_open; rest = rest; bytes = sym (append_assoc (written bodies) (gate ∷ sized body) (0 ∷ rest)); fit = fit; fits = fits })))
      (cases_eq gate 0))
      (cases_eq gate 1)
