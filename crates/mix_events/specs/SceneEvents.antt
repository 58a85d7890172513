-- The fields of the events on scenes.
use Rattle.std.specs.Prelude.{ℕ, List, [], ◌∷◌, false, codes}
use Rattle.mix_base.specs.Uuids.{uuid_of}
use Rattle.mix_events.specs.Trees.{Field, flag, text}

-- a scene or group: its name, and the UUID that its serial gives
unfoldable pub scene_fields : List ℕ → ℕ → List Field
scene_fields name serial =
    text (codes "sceneName") name
    ∷ text (codes "sceneUuid") (uuid_of serial)
    ∷ []

-- a scene came or went: groups aren't told of, so it is none
unfoldable pub scene_came : List ℕ → ℕ → List Field
scene_came name serial = flag (codes "isGroup") false ∷ scene_fields name serial

-- a scene got another name
unfoldable pub scene_renamed : List ℕ → List ℕ → ℕ → List Field
scene_renamed old name serial = text (codes "oldSceneName") old ∷ scene_fields name serial
