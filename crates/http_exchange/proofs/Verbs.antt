-- The names of methods are tokens, and short.
use Rattle.std.proofs.Common.{◌≤◌, refl, lit<, lit≤, length, codes}
use Rattle.std.proofs.lemmas.List.Sums.{AllPass-from_list_all}
use Rattle.http.specs.Token.{IsToken, is_token_byte}
use Rattle.http_exchange.specs.declared.page.Verb.{Verb}
use Rattle.http_exchange.specs.declared.page.Verb.TheVariants.{Get, Post}
use Rattle.http_exchange.specs.Routes.{verb_name}

pub verb-token : (verb : Verb) → IsToken (verb_name verb)
unfolding is_token_byte
verb-token Get = (lit< tt, AllPass-from_list_all is_token_byte (codes "GET") refl)
verb-token Post = (lit< tt, AllPass-from_list_all is_token_byte (codes "POST") refl)

pub verb-short : (verb : Verb) → length (verb_name verb) ≤ 15
verb-short Get = lit≤ tt
verb-short Post = lit≤ tt
