-- The texts of the replies that are sent most, and what they are read as.
use Rattle.std.proofs.Common.{◌≡◌, ◌∙◌, ℕ, ◌<◌, ◌^◌, ◌++◌, List, [], ◌∷◌, codes, decimal, Some}
use Rattle.std.proofs.Common.{refl, ap, rules}
use Rattle.json.specs.Token.{Token, begin_object, end_object, key}
use Rattle.json.specs.Token as token
use Rattle.json.specs.Print.{print}
use Rattle.serde_json.specs.Read.{read}
use Rattle.serde_json.proofs.Texts.{print-outline}
use Rattle.serde_json.proofs.OnLiterals.{serde_json_on_literals}
use Rattle.cam6_commands.specs.declared.replies.Reply.TheVariants.{Done}
use Rattle.cam6_commands.specs.declared.replies.Done.TheVariants.{Run, Back, Row}
use Rattle.cam6_wire.specs.Replies.{reply_data, reply_bytes}
use Rattle.cam6_wire.proofs.Flat.{flat_reply}
use Rattle.cam6_wire.proofs.ReadBack.{read_back}

pub run_bytes : (n : ℕ) →
    codes "{\"ok\":\"run\",\"position\":" ++ decimal n ++ codes "}" ≡ reply_bytes (Done (Run n))
unfolding reply_bytes serde_json_on_literals
run_bytes n = search rules

pub run_read : (n : ℕ) → n < 2 ^ 64 →
    read (reply_bytes (Done (Run n))) ≡ Some (reply_data (Done (Run n)))
unfolding reply_bytes
run_read n whole =
    read_back (reply_data (Done (Run n))) (tt, (refl, tt), (whole, tt, tt)) (flat_reply (Done (Run n)))

pub back_bytes : (n : ℕ) →
    codes "{\"ok\":\"back\",\"position\":" ++ decimal n ++ codes "}"
    ≡ reply_bytes (Done (Back n))
unfolding reply_bytes serde_json_on_literals
back_bytes n = search rules

pub back_read : (n : ℕ) → n < 2 ^ 64 →
    read (reply_bytes (Done (Back n))) ≡ Some (reply_data (Done (Back n)))
unfolding reply_bytes
back_read n whole =
    read_back (reply_data (Done (Back n))) (tt, (refl, tt), (whole, tt, tt))
    (flat_reply (Done (Back n)))

pub row_read : (bits : List ℕ) →
    read (reply_bytes (Done (Row bits))) ≡ Some (reply_data (Done (Row bits)))
unfolding reply_bytes
row_read bits =
    read_back (reply_data (Done (Row bits))) (tt, (refl, tt), (tt, tt, tt))
    (flat_reply (Done (Row bits)))

-- the tokens of a row's reply, written one after another
pub row_written : (bits : List ℕ) (a b c d e f g : List Token) → a ≡ [] →
    b ≡ a ++ begin_object ∷ [] → c ≡ b ++ key (codes "bits") ∷ [] → d ≡ c ++ token.string bits ∷ [] →
    e ≡ d ++ key (codes "ok") ∷ [] → f ≡ e ++ token.string (codes "row") ∷ [] →
    g ≡ f ++ end_object ∷ [] → print g ≡ reply_bytes (Done (Row bits))
unfolding reply_bytes
row_written bits a b c d e f g none opened first digits second word closed =
    ap print
    (closed ∙
    ap (λ (ts : List Token). ts ++ end_object ∷ [])
    (word ∙
    ap (λ (ts : List Token). ts ++ token.string (codes "row") ∷ [])
    (second ∙
    ap (λ (ts : List Token). ts ++ key (codes "ok") ∷ [])
    (digits ∙
    ap (λ (ts : List Token). ts ++ token.string bits ∷ [])
    (first ∙
    ap (λ (ts : List Token). ts ++ key (codes "bits") ∷ [])
    (opened ∙ ap (λ (ts : List Token). ts ++ begin_object ∷ []) none)))))) ∙
    print-outline (reply_data (Done (Row bits)))
