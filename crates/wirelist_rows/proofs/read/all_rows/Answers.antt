use Rattle.std.proofs.Common.{Bor, List, ℕ, ◌≡◌, ◌++◌, ◌∙◌, ap, sym, refl, rules, inl, inr, true, map, Some, ◌∷◌, []}
use Rattle.std.specs.Result.{is_ok}
use Rattle.std.proofs.lemmas.List.{map-append}
use Rattle.csv.specs.Reading.{Reached, default_config, strip_bom}
use Rattle.csv.specs.Records.{fields_of}
use Rattle.csv.specs.declared.parser.State.TheVariants as st
use Rattle.csv.proofs.ReadFacts.{rows-end, rows-more}
use Rattle.wirelist_rows.specs.Filled.{filled}
use Rattle.wirelist_rows.proofs.AllRecords.{AreRecords-records}
use Rattle.wirelist_rows.proofs.read.all_rows.Goals as goal

-- one more record, filled
filled_more : (raw : List (List (List ℕ))) (fields : List (List ℕ)) (rows : List (List (List ℕ))) (row : List (List ℕ)) → rows ≡ map filled raw → row ≡ filled fields → rows ++ (row ∷ []) ≡ map filled (raw ++ (fields ∷ []))
filled_more raw fields rows row same is = rw (same, is) (sym (map-append filled raw (fields ∷ [])))

pub loop-row-init : goal.loop-row-init
unfolding Reached
loop-row-init c =
    let fr = c.from_reader-reader.ensures in
    let b = c.flexible.ensures in
    let e = c.has_headers.ensures in
    let start = c.into_iter-row-iterator.ensures.into_iter_gives ∙ refl in
    let rdr = c.into_byte_records-row-items.ensures.rdr in
    let left = c.into_byte_records-row-items.ensures.left in
    rw (start, rdr) (
      rw (b, e) at fr.trim ∙ c.new.ensures.trim,
      inr (inr (rw (b, e) at fr.has_headers, fr.headers)),
      left,
      rw (b, e) at fr.config ∙ c.new.ensures.config,
      strip_bom c.args.bytes.now,
      fr.source,
      [],
      c.new-rows.ensures.items,
      (sym fr.state, refl),
      rw b at fr.flexible,
    )

pub loop-row-preserved : goal.loop-row-preserved
loop-row-preserved c =
    let inv = c.loop-row.invariant in
    let s = rw (c.in-Some.is, c.in_ok-taken.was) at ((c.next.ensures.steps inv.2 inv.0).0 inv.1) in
    let good : is_ok c.push.result ≡ true = search rules in
    let items = rw good at c.push.ensures.items in
    let m = rows-more (λ (s : Bor (List ℕ)). Some s.now) c.loop-row.row-iterator.rdr c.next.new.self.rdr (fields_of c.in_ok-taken.taken) default_config st.StartRecord (strip_bom c.args.bytes.now) inv.4 inv.6 inv.3 inv.5 inv.8 s.0 in (
      s.0.3 ∙ inv.0,
      inl s.1,
      s.2,
      s.0.2 ∙ inv.3,
      m.0,
      m.1,
      inv.6 ++ (fields_of c.in_ok-taken.taken ∷ []),
      items ∙ filled_more inv.6 (fields_of c.in_ok-taken.taken) c.loop-row.rows.items c.in_ok-filled.filled inv.7 c.in_ok-filled.ensures,
      m.2,
      rw (c.in-Some.is, c.in_ok-taken.was) at (c.next.ensures.steps inv.2 inv.0).3 ∙ inv.9,
    )

pub returns-clause-read : goal.returns-clause-read
returns-clause-read c =
    let inv = c.loop-row.invariant in
    let s = rw c.in-None.is at ((c.next.ensures.steps inv.2 inv.0).0 inv.1) in
    let ended = rows-end (λ (s : Bor (List ℕ)). Some s.now) c.loop-row.row-iterator.rdr c.next.new.self.rdr [] default_config inv.4 inv.3 inv.5 s in
    inv.7 ∙ ap (map filled) (sym (AreRecords-records default_config (strip_bom c.args.bytes.now) _ (c.loop-row.row-iterator.rdr.state, inv.4, inv.8, ended)))
