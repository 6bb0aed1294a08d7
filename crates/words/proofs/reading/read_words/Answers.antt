use Rattle.std.proofs.Common.{map, sym, ap, ◌∙◌, string_bytes}
use Rattle.words.specs.Forms.{setting_of}
use Rattle.words.specs.Items.{plains, options}
use Rattle.words.specs.Steps.{item_of}
use Rattle.words.proofs.Asking.{no_form_of}
use Rattle.words.proofs.reading.read_words.Goals as goal

pub returns : goal.returns
returns c =
    no_form_of _ (map item_of c.in-Some.items.items) c.as_slice-2.result.now _ (map setting_of c.as_slice-3.result.now) (sym (rw c.in-Some.is at c.in_ok-items.ensures))
    (ap (map (λ w. w.now)) c.as_slice-2.ensures.value ∙ c.in_ok-parts.ensures.plains ∙ ap (λ is. plains (map item_of is)) c.as_slice.ensures.value) c.in-len1.len_at_least c.in-len1.len_below
    (ap (map setting_of) c.as_slice-3.ensures.value ∙ c.in_ok-parts.ensures.options ∙ ap (λ is. options (map item_of is)) c.as_slice.ensures.value) c.in-None.ensures.none
