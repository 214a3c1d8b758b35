mod Children
mod Items
mod Pages
mod Tables
