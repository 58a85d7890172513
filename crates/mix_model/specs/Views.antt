-- What a look at a row shows.
use Rattle.std.specs.Prelude.{◌≡◌, length, IsTrue, ◌||◌, ◌==◌}
use Rattle.mix_model.specs.declared.row.Row.{Row}
use Rattle.mix_model.specs.declared.row.RowView.{RowView}
use Rattle.mix_model.specs.Rows.{has_items}
use Rattle.mix_model.specs.Values.{are_settings, is_sound}

-- a look shows the whole row, but only the number of its items
pub record IsView (row : Row) (view : RowView) : Type 0 where
  pub serial : view.serial ≡ row.serial
  pub name : view.name.now ≡ row.name
  pub kind : view.kind ≡ row.kind
  pub settings : view.settings.now ≡ row.settings
  pub sound : view.sound ≡ row.sound
  pub since : view.since ≡ row.since
  pub items : view.items ≡ length row.items
  pub next_item : view.next_item ≡ row.next_item

-- what is seen is valid: settings of its kind in their ranges, and inputs without items
pub record IsValidView (view : RowView) : Type 0 where
  pub settings : IsTrue (are_settings view.kind view.settings.now)
  pub sound : IsTrue (is_sound view.sound)
  pub bare : IsTrue (has_items view.kind || (view.items == 0))
