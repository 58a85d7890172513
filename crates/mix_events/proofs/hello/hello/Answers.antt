use Rattle.std.proofs.Common.{◌∙◌, ap, sym, codes, pos, ◌∷◌, []}
use Rattle.std.proofs.lemmas.Result.{on_ok_weaker}
use Rattle.mix_base.specs.declared.json.Json as json
use Rattle.mix_json.specs.Growing.{more_field}
use Rattle.mix_json.proofs.TextLemmas.{more_fields_append}
use Rattle.mix_model.specs.Texts.{rpc_version, version_text}
use Rattle.mix_events.specs.Texts.{authentication, hello_fields}
use Rattle.mix_events.specs.Trees.{number, text}
use Rattle.mix_events.proofs.hello.hello.Goals as goal

-- what is needed to log in, and then the versions
pub returns : goal.returns
unfolding hello_fields
returns c =
    let rest = text (codes "obsWebSocketVersion") version_text ∷ number (codes "rpcVersion") rpc_version ∷ [] in
    record {
      value = on_ok_weaker c.int.result
          (λ last. last
          ∙ ap (more_field (codes "rpcVersion") (json.Int (pos 1)))
          (c.in_ok-text.ensures.value ∙ ap (more_field (codes "obsWebSocketVersion") (json.Text version_text)) c.in_ok-with_secret.ensures.value)
          ∙ sym (more_fields_append (authentication c.args.login.now) rest c.args.out.now))
          c.int.ensures.value;
    }
