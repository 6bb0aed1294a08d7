use Rattle.std.proofs.Common.{◌≡◌, true, false, cond, ℕ, List, inr, sym, ◌∙◌, ap, subst, rules}
use Rattle.std.specs.BTreeSet.{contains_text}
use Rattle.std.specs.Prelude.{string_bytes, bytes_eq}
use Rattle.std.proofs.lemmas.Map.Text.{btree_set_updates_text}
use Rattle.wirelist_reader.specs.Rows.{field_at}
use Rattle.wirelist_reader.proofs.SeenFacts.{names_more, same_name, new_name}
use Rattle.wirelist_reader.proofs.seen.Seen.add_name.Goals as goal

pub returns-then-contains-clause-finds : goal.returns-then-contains-clause-finds
returns-then-contains-clause-finds c = λ names are.
    let key : c.text.result.now ≡ field_at c.args.row.now 1 = c.text.ensures.bytes ∙ c.name_of-name.ensures in
    let there : c.contains.result ≡ true = search rules in
    inr (same_name c.args.self.now.names names (field_at c.args.row.now 1) c.args.number are
    (ap (contains_text c.args.self.now.names) (sym key) ∙ sym c.contains.ensures ∙ there))

pub returns-clause-finds : goal.returns-clause-finds
returns-clause-finds c = λ names are.
    let key : c.text.result.now ≡ field_at c.args.row.now 1 = c.text.ensures.bytes ∙ c.name_of-name.ensures in
    let missing : c.contains.result ≡ false = search rules in
    new_name c.args.self.now.names names (field_at c.args.row.now 1) c.args.number are
    (ap (contains_text c.args.self.now.names) (sym key) ∙ sym c.contains.ensures ∙ missing)

pub returns-clause-names : goal.returns-clause-names
returns-clause-names c = λ names are.
    let key : string_bytes c.in_ok-text.text ≡ field_at c.args.row.now 1 = c.in_ok-text.ensures.ok ∙ c.text-2.ensures.bytes ∙ c.name_of-name.ensures in
    names_more c.args.self.now.names c.insert.new.self names (field_at c.args.row.now 1) are
    (subst (λ (k : List ℕ). (cs : List ℕ) → contains_text c.insert.new.self cs ≡ cond (bytes_eq k cs) true (contains_text c.args.self.now.names cs)) key
    (btree_set_updates_text (string_bytes c.in_ok-text.text) c.args.self.now.names c.insert.new.self true c.in_ok-insert.ensures.updates))
