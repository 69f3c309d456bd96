-- The mode of matches that entered `serve`.
use Rattle.std.proofs.Common.{◌≡◌, Option, None, Some, List, codes, option_map, refl, sym, subst, ap}
use Rattle.std.proofs.Common.{◌∙◌}
use Rattle.clap.specs.Words.{Row, Text}
use Rattle.cam6_cli.specs.CommandLine.{mode_of, served_at}

-- the names among names with rows
pub names_alone : {B A C : Type 0} (o : Option B) (f : B → A) (g : B → C) →
    option_map (λ (p : A × C). p.0) (option_map (λ b. (f b, g b)) o) ≡ option_map f o
names_alone None f g = refl
names_alone (Some b) f g = refl

named_serve : (name : Text) (rows had : List Row) → name ≡ codes "serve" → had ≡ rows →
    mode_of (Some (name, had)) ≡ served_at rows
named_serve name rows had is same = ap (λ name. mode_of (Some (name, had))) is ∙ ap served_at same

pub serve_mode : (found : Option (Text × List Row)) (rows : List Row) →
    option_map (λ (p : Text × List Row). p.0) found ≡ Some (codes "serve") →
    option_map (λ (p : Text × List Row). p.1) found ≡ Some rows → mode_of found ≡ served_at rows
serve_mode None rows is same = let never : ⊥ = cc in absurd never
serve_mode (Some found) rows is same = named_serve found.0 rows found.1 (cc is) (cc same)
