use Rattle.std.proofs.Common.{◌≡◌, ◌∙◌, ◌++◌, ◌∷◌, [], List, ℕ, IfOk, ap, subst}
use Rattle.json.specs.Token.{Token}
use Rattle.json.specs.Token as token
use Rattle.json.specs.Print.{print}
use Rattle.cam6_wire.proofs.PlainReplies.{row_written}
use Rattle.cam6_wire.proofs.replies.row_text.Goals as goal

pub returns : goal.returns
returns c =
    let bits = c.args.bits.now in
    let before : c.end_object.new.self.before ≡ [] =
    c.end_object.ensures.room.0 ∙ c.string-2.ensures.room.0 ∙ c.key-2.ensures.room.0 ∙
    c.string.ensures.room.0 ∙ c.key.ensures.room.0 ∙ c.begin_object.ensures.room.0 ∙
    c.new-writer.ensures.before ∙ c.in_ok-with_capacity.ensures.items in
    let digits =
    c.in_ok-string.ensures.ok ∙
    ap (λ (d : List ℕ). c.key.new.self.tokens ++ token.string d ∷ [])
    (c.digits.ensures ∙ c.as_slice.ensures.digits) in
    let printed =
    row_written bits _ _ _ _ _ _ _ c.new-writer.ensures.tokens c.in_ok-begin_object.ensures.ok
    c.in_ok-key.ensures.ok digits c.in_ok-key-2.ensures.ok c.in_ok-string-2.ensures.ok
    c.in_ok-end_object.ensures.ok in
    let is : c.unwrap.result.bytes ≡ c.into_inner.result =
    subst (λ r. IfOk r (λ text. text.bytes ≡ c.into_inner.result)) c.unwrap.ensures
    c.from_utf8.ensures.ok in
    ap (λ v. v.items) is ∙ c.into_inner.ensures.items ∙
    ap (λ (front : List ℕ). front ++ print c.end_object.new.self.tokens) before ∙ printed
