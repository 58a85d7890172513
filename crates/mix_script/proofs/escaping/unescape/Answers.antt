-- one more byte
use Rattle.std.proofs.Common.{◌≡◌, ◌∙◌, ◌++◌, ◌∷◌, [], sym, ap, drop, false, arith}
use Rattle.mix_script.specs.Escapes.{unescaped_after}
use Rattle.mix_script.proofs.EscapeLemmas.{put_before, put_before-more}
use Rattle.mix_script.proofs.escaping.unescape.Goals as goal

pub left-preserved : goal.left-preserved
left-preserved c =
    let l = c.left in
    let byte = c.in-Some.byte in
    let rest = unescaped_after false (drop c.in-Some.next c.args.written.now) in
    let pushed : c.push_reserved.new.self.items ≡ l.bytes.items ++ byte ∷ [] = c.push_reserved.ensures.items in
    record {
      text = l.invariant.text ∙ ap (put_before l.bytes.items) c.in-Some.ensures.value
          ∙ put_before-more l.bytes.items byte rest ∙ ap (λ bs. put_before bs rest) (sym pushed);
      within = grind arith;
      room = grind arith;
    }
