-- What each edit of one row makes of it.
use Rattle.mix_model.specs.declared.row.Row.{Row}
use Rattle.mix_model.specs.declared.item.Item.{Item}
use Rattle.mix_model.specs.Items.{without_item, with_item_at, with_item_changed}
use Rattle.mix_model.specs.Items.{enabled_as, locked_as, placed_at}
use Rattle.mix_model.specs.Edits.{set_to, named_as}
use Rattle.mix_store.specs.declared.row_edit.ItemEdit.{ItemEdit}
use Rattle.mix_store.specs.declared.row_edit.ItemEdit.TheVariants.{Enabled, Locked, Placed}
use Rattle.mix_store.specs.declared.row_edit.RowEdit.{RowEdit}
use Rattle.mix_store.specs.declared.row_edit.RowEdit.TheVariants.{Remove, Move, Change, Set, Rename}

-- an item is enabled or not, locked or not, or stands somewhere
abbrev pub item_edited : ItemEdit → Item → Item
item_edited (Enabled enabled) = enabled_as enabled
item_edited (Locked locked) = locked_as locked
item_edited (Placed place blend) = placed_at place blend

-- an item goes, is moved or is changed, the row is set, or has another name
abbrev pub row_edited : RowEdit → Row → Row
row_edited (Remove id) = without_item id
row_edited (Move id index) = with_item_at id index
row_edited (Change id edit) = with_item_changed id (item_edited edit)
row_edited (Set settings sound) = set_to settings sound
row_edited (Rename name) = named_as name
