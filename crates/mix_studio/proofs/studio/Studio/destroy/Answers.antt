use Rattle.std.proofs.Common.{◌≡◌, arith, length}
use Rattle.mix_studio.proofs.ChangeLemmas.{destroyed_keeps, destroyed_state, none_dies}
use Rattle.mix_studio.proofs.studio.Studio.destroy.Goals as goal

-- the first row that dies is destroyed
pub returns-clause-ok : goal.returns-clause-ok
returns-clause-ok c = λ some. destroyed_state _ c.args.self.now c.destroy_next-destroyed.new.self
    c.self.view_is c.destroy_next-destroyed.ensures.state

-- and there is one
pub returns-clause-err : goal.returns-clause-err
returns-clause-err c = λ none.
    let no : length c.self.inside.graph.present.dying ≡ 0 =
    none_dies c.self.inside.graph.present.dying c.destroy_next-destroyed.result
    c.destroy_next-destroyed.ensures.reply none in
    absurd (omega (arith, no, c.dying.ensures.reply))

pub returns-clause-shape : goal.returns-clause-shape
returns-clause-shape c = destroyed_keeps _ c.args.self.now c.destroy_next-destroyed.new.self
    c.self.view_is c.destroy_next-destroyed.ensures.state c.requires.shape
    c.has_shape.ensures.shape
