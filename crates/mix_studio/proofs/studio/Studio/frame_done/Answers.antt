use Rattle.mix_studio.proofs.ChangeLemmas.{frame_keeps, ok_there, released_state}
use Rattle.mix_studio.proofs.studio.Studio.frame_done.Goals as goal

-- the frame is given back
pub returns-clause-ok : goal.returns-clause-ok
returns-clause-ok c = λ there. released_state _ c.args.self.now c.release_frame.new.self
    c.args.number c.self.view_is (ok_there c.release_frame.result c.is_ok-ended.result _
    c.release_frame.ensures.ok c.is_ok-ended.ensures.value there)

pub returns-clause-shape : goal.returns-clause-shape
returns-clause-shape c = frame_keeps _ c.args.self.now c.self.view_is c.requires.shape
    c.release_frame.result c.release_frame.new.self c.args.number c.release_frame.ensures.ok
    c.release_frame.ensures.err c.has_shape.ensures.shape
