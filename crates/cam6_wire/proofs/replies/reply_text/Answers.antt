use Rattle.std.proofs.Common.{◌≡◌, Some, ap, ◌∙◌, sym}
use Rattle.serde_json.specs.Read.{read}
use Rattle.cam6_commands.specs.declared.replies.Done.{Done}
use Rattle.cam6_commands.specs.declared.replies.Reply.{Reply}
use Rattle.cam6_commands.specs.declared.replies.Reply.TheVariants as reply
use Rattle.cam6_wire.proofs.PlainReplies.{run_bytes, run_read, back_bytes, back_read, row_read}
use Rattle.cam6_wire.specs.Replies.{reply_bytes, reply_data}
use Rattle.cam6_wire.proofs.replies.reply_text.Goals as goal

-- what was done, as a reply
is_done : {r : Reply} {d e : Done} → r ≡ reply.Done d → d ≡ e → r ≡ reply.Done e
is_done of same = of ∙ ap reply.Done same

pub returns-in_ok-number_text-in-Run-clause-text : goal.returns-in_ok-number_text-in-Run-clause-text
returns-in_ok-number_text-in-Run-clause-text c =
    c.in_ok-number_text-in-Run.ensures.text ∙ run_bytes c.in-Run.position ∙
    ap reply_bytes (sym (is_done c.in-Done.is c.in-Run.is))

pub returns-in_ok-number_text-in-Run-clause-value :
    goal.returns-in_ok-number_text-in-Run-clause-value
returns-in_ok-number_text-in-Run-clause-value c =
    ap read (c.in_ok-number_text-in-Run.ensures.text ∙ run_bytes c.in-Run.position) ∙
    run_read c.in-Run.position c.number_text.ensures.fits ∙
    ap (λ (r : Reply). Some (reply_data r)) (sym (is_done c.in-Done.is c.in-Run.is))

pub returns-in_ok-number_text-in-Back-clause-text : goal.returns-in_ok-number_text-in-Back-clause-text
returns-in_ok-number_text-in-Back-clause-text c =
    c.in_ok-number_text-in-Back.ensures.text ∙ back_bytes c.in-Back.position ∙
    ap reply_bytes (sym (is_done c.in-Done.is c.in-Back.is))

pub returns-in_ok-number_text-in-Back-clause-value :
    goal.returns-in_ok-number_text-in-Back-clause-value
returns-in_ok-number_text-in-Back-clause-value c =
    ap read (c.in_ok-number_text-in-Back.ensures.text ∙ back_bytes c.in-Back.position) ∙
    back_read c.in-Back.position c.number_text-in-Back.ensures.fits ∙
    ap (λ (r : Reply). Some (reply_data r)) (sym (is_done c.in-Done.is c.in-Back.is))

pub returns-in_ok-row_text-in-Row-clause-text : goal.returns-in_ok-row_text-in-Row-clause-text
returns-in_ok-row_text-in-Row-clause-text c =
    c.in_ok-row_text-in-Row.ensures ∙ ap reply_bytes (sym (is_done c.in-Done.is c.in-Row.is))

pub returns-in_ok-row_text-in-Row-clause-value :
    goal.returns-in_ok-row_text-in-Row-clause-value
returns-in_ok-row_text-in-Row-clause-value c =
    ap read c.in_ok-row_text-in-Row.ensures ∙ row_read c.in-Row.bits ∙
    ap (λ (r : Reply). Some (reply_data r)) (sym (is_done c.in-Done.is c.in-Row.is))
