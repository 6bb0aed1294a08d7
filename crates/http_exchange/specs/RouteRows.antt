-- The routes as `matchit` keeps them.
use Rattle.std.specs.Prelude.{ℕ, List, [], ◌∷◌, ◌++◌, codes, map}
use Rattle.matchit.specs.Rows.{RowsOf, param_token}
use Rattle.matchit.specs.Router.{RouteOf}
use Rattle.http_exchange.specs.declared.page.Page.{Page}
use Rattle.http_exchange.specs.declared.page.Page.TheVariants.{Unit}
use Rattle.http_exchange.specs.Routes.{fixed}

-- a route without a parameter
abbrev pub plain : List ℕ × Page → List ℕ × RouteOf Page
plain (text, page) = (text, record { pattern = text; text = text; names = []; value = page })

-- the route with the parameter
abbrev pub unit_route : RouteOf Page
unit_route = record { pattern = codes "/units/" ++ (param_token ∷ []); text = codes "/units/{serial}"; names = (8, 14) ∷ []; value = Unit }

-- the routes in the router's order
abbrev pub the_routes : RowsOf (RouteOf Page)
the_routes = map plain fixed ++ ((codes "/units/" ++ (param_token ∷ []), unit_route) ∷ [])
