use Rattle.std.proofs.Common.{rules, ◌≡◌, FitsSigned, ◌++◌, ◌∙◌, ap, codes}
use Rattle.std.specs.Prelude.{decimal, string_bytes}
use Rattle.std.specs.Fmt.{signed_decimal}
use Rattle.std.specs.Int.{w128}
use Rattle.std.proofs.lemmas.Int.{to_z-of_z}
use Rattle.load_gen.proofs.SummaryLemmas.{line_is}
use Rattle.load_gen.proofs.summary.Summary.line.Goals as goal

pub returns : goal.returns
returns c = λ replies counts.
    let s = c.args.self.now in
    let fits : FitsSigned w128 s.sum = search rules in
    let one : string_bytes c.push_count.new.line ≡ codes "{\"lines\":" ++ decimal s.lines = c.in_ok-push_count.ensures ∙ ap (λ l. (l ++ codes "{\"lines\":") ++ decimal s.lines) c.new-line.ensures.bytes in
    let two : string_bytes c.push_count-2.new.line ≡ codes "{\"lines\":" ++ decimal s.lines ++ codes ",\"ok\":" ++ decimal s.ok = c.in_ok-push_count-2.ensures ∙ ap (λ l. (l ++ codes ",\"ok\":") ++ decimal s.ok) one in
    let three : string_bytes c.push_count-3.new.line ≡ codes "{\"lines\":" ++ decimal s.lines ++ codes ",\"ok\":" ++ decimal s.ok ++ codes ",\"points\":" ++ decimal s.points = c.in_ok-push_count-3.ensures ∙ ap (λ l. (l ++ codes ",\"points\":") ++ decimal s.points) two in
    let r = c.saturating_sub-refused.result in
    let four : string_bytes c.push_count-4.new.line ≡ codes "{\"lines\":" ++ decimal s.lines ++ codes ",\"ok\":" ++ decimal s.ok ++ codes ",\"points\":" ++ decimal s.points ++ codes ",\"refused\":" ++ decimal r = c.in_ok-push_count-4.ensures ∙ ap (λ l. (l ++ codes ",\"refused\":") ++ decimal r) three in
    let five : string_bytes c.push_sum.new.line ≡ codes "{\"lines\":" ++ decimal s.lines ++ codes ",\"ok\":" ++ decimal s.ok ++ codes ",\"points\":" ++ decimal s.points ++ codes ",\"refused\":" ++ decimal r ++ codes ",\"sum\":" ++ signed_decimal s.sum =
    c.in_ok-push_sum.ensures ∙ ap (λ z. (string_bytes c.push_count-4.new.line ++ codes ",\"sum\":") ++ signed_decimal z) (to_z-of_z w128 s.sum fits) ∙ ap (λ l. (l ++ codes ",\"sum\":") ++ signed_decimal s.sum) four in
    c.in_ok-push_str.ensures.bytes ∙ ap (λ l. l ++ codes "}\n") five ∙ line_is replies s r counts c.saturating_sub-refused.ensures
