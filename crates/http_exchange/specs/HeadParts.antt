-- What spans of a head's bytes are parts of.
use Rattle.std.specs.Prelude.{◌≡◌, ℕ, List, map, codes}
use Rattle.httparse.specs.Grammar.{RequestHead, IsRequestHead}
use Rattle.httparse.specs.Spans.{span_bytes, header_bytes, name_and_value}
use Rattle.httparse.specs.declared.spans.HeaderSpan.{HeaderSpan}
use Rattle.httparse.specs.declared.spans.RequestSpans.{RequestSpans}
use Rattle.http_exchange.specs.declared.page.Submission.{Submission}
use Rattle.http_exchange.specs.declared.request.Asked.{Asked}
use Rattle.http_exchange.specs.declared.page.Page.{Page}
use Rattle.http_exchange.specs.Heads.{values_of}
use Rattle.http_exchange.specs.Routes.{path_of}
use Rattle.http_exchange.specs.Requests.{posted, page_asked}

-- the spans cover the method, the target and the fields of a head
pub record ArePartsOf (bytes : List ℕ) (spans : RequestSpans) (fields : List HeaderSpan) (h : RequestHead) : Type 0 where
  pub head : IsRequestHead h
  pub method : span_bytes bytes spans.method ≡ h.method
  pub target : span_bytes bytes spans.path ≡ h.target
  pub fields_are : map (header_bytes bytes) fields ≡ map name_and_value h.fields

-- what is asked of a submission, for each head with these fields
abbrev pub PostedAs : Submission → List ℕ → List HeaderSpan → Asked → Type 0
PostedAs s bytes fields asked =
    (h : RequestHead) → map (header_bytes bytes) fields ≡ map name_and_value h.fields → asked ≡ posted s (values_of (codes "content-length") h)

-- what is asked of a page, for each head with this path and these fields
abbrev pub PageAskedAs : Page → List ℕ → List ℕ → List HeaderSpan → Asked → Type 0
PageAskedAs page path bytes fields asked =
    (h : RequestHead) → path ≡ path_of h.target → map (header_bytes bytes) fields ≡ map name_and_value h.fields → asked ≡ page_asked h page
