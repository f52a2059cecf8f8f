-- What a player sets beside the image: nothing yet. Assumes nothing.
pub data Setting : Type 0 where
  plain : Setting
