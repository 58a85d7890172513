use Rattle.std.proofs.Common.{◌≡◌, ◌<◌, ◌+◌, ◌*◌, ◌∙◌, ap, sym, subst, arith, ℕ, ℤ, pos}
use Rattle.std.proofs.Common.{List, length, IsTrue, fold}
use Rattle.std.proofs.lemmas.List.{take_at}
use Rattle.mix_model.specs.declared.voice.Voice.{Voice}
use Rattle.mix_model.specs.declared.picture.Block.{Block}
use Rattle.mix_model.specs.Sounds.{added, track_sample, is_block}
use Rattle.mix_audio.specs.Frames.{HasFrame}
use Rattle.mix_audio.proofs.Blocks.{mixed_is, frames_fit}
use Rattle.mix_audio.proofs.mixing.mix.Goals as goal

-- the samples that were written are those of the block
written : (c : goal.After-from_vec) → c.from_vec.result ≡ c.fill.new.block
written c =
    let new = c.fill.new.block in
    let whole : length new ≡ c.in_ok-samples.samples.len = omega arith in
    c.from_vec.ensures.value ∙ take_at new _ c.in_ok-samples.samples.len whole

long : (c : goal.After-from_vec) → length c.fill.new.block ≡ 12288
long c = omega (arith, c.in_ok-samples.ensures)

heard : (c : goal.After-from_vec) → (t i : ℕ) → t < 6 → i < 1024 → HasFrame c.fill.new.block t i
    (track_sample c.args.voices.now t (pos (1024 * c.args.number + i)))
heard c =
    let Has : List Voice → Type 0 = λ voices. (t i : ℕ) → t < 6 → i < 1024 →
    HasFrame c.fill.new.block t i (track_sample voices t (pos (1024 * c.args.number + i))) in
    subst Has c.as_slice.ensures.value c.fill.ensures

pub returns-clause-value : goal.returns-clause-value
returns-clause-value c =
    let made : List ℤ → Block = λ tracks. record { tracks = tracks } in
    ap made (written c
    ∙ sym (mixed_is c.args.voices.now c.args.number c.fill.new.block (long c) (heard c)))

-- and each fits sixteen bits
pub returns-clause-block : goal.returns-clause-block
returns-clause-block c =
    let Fits : List ℤ → Type 0 = λ tracks. IsTrue (is_block (record { tracks = tracks })) in
    let sums : ℕ → ℕ → ℤ =
    λ t i. fold (added t (pos (1024 * c.args.number + i))) (pos 0) c.args.voices.now in
    subst Fits (sym (written c)) (frames_fit sums c.fill.new.block (long c) (heard c))
