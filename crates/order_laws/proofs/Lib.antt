mod Told
mod Lines
mod Advised
