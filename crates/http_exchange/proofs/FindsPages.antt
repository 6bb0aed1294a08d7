-- The routes find the pages of the station.
use Rattle.std.proofs.Common.{◌≡◌, ◌∙◌, refl, ap, arith, ℕ, suc, ◌<◌, Bool, true, false, cond, List, [], ◌∷◌, Option, Some, None, option_map, codes, map, get_or, Fits, w8}
use Rattle.std.specs.Str.{bytes_eq}
use Rattle.matchit.specs.Router.{RouteOf}
use Rattle.matchit.specs.Seek.{or_else, first}
use Rattle.http_exchange.specs.declared.page.Page.{Page}
use Rattle.http_exchange.specs.declared.page.Page.TheVariants as page
use Rattle.http_exchange.specs.Routes.{is_unit, fixed, page_in, page_at}
use Rattle.http_exchange.specs.RouteRows.{plain, unit_route, the_routes}
use Rattle.http_exchange.proofs.Routing.{IsBytes, lookup, at_param, seek-param, at_param-starts}

abbrev pub the_value : Option (RouteOf Page) → Option Page
the_value o = option_map (λ r. r.value) o

pub are-bytes : (p : List ℕ) → ((i : ℕ) → Fits w8 (get_or p i 0)) → IsBytes p
are-bytes [] fit = tt
are-bytes (b ∷ p) fit =
    let first : Fits w8 b = fit 0 in
    let small : b < 256 = omega arith in
    (small, are-bytes p (λ i. fit (suc i)))

lookup-page : (path : List ℕ) (table : List (List ℕ × Page)) (other : Option (RouteOf Page))
    → the_value (or_else (lookup path (map plain table)) other) ≡ page_in path table (the_value other)
lookup-page path [] other = refl
lookup-page path ((text, p) ∷ rest) other = by (bytes_eq path text) (lookup-page path rest other)
  where
    by : (v : Bool) → the_value (or_else (lookup path (map plain rest)) other) ≡ page_in path rest (the_value other)
        → the_value (or_else (cond v (Some (plain (text, p)).1) (lookup path (map plain rest))) other) ≡ cond v (Some p) (page_in path rest (the_value other))
    by true e = refl
    by false e = e

unit_value : (v : Bool) → the_value (cond v (Some unit_route) None) ≡ cond v (Some page.Unit) None
unit_value true = refl
unit_value false = refl

pub first-page : (path : List ℕ) → IsBytes path → the_value (first the_routes path) ≡ page_at path
first-page path bytes =
    ap the_value (seek-param (map plain fixed) (codes "/units/") unit_route path (omega arith) (omega arith) bytes)
    ∙ lookup-page path fixed (at_param (codes "/units/") unit_route path)
    ∙ ap (λ o. page_in path fixed o) (ap the_value (at_param-starts (codes "/units/") unit_route path) ∙ unit_value (is_unit path))
